-- The characters of a coded character set among ranges of values.
use Rattle.std.specs.Prelude.{ℕ, min, max, nat_le, List, [], ◌∷◌, ◌++◌, map, if◌then◌else◌}
use Rattle.class_ranges.specs.Ranges.{Range, ranges_of}
use Rattle.charset.specs.Portable.{Name}
use Rattle.charset.specs.CodedSet.{CodedSet, utf8, posix, listed, big_endian}

-- ranges that have just the characters of a set
abbrev pub ranges_of_set : CodedSet → List Range
ranges_of_set utf8 = (0, 0xD7FF) ∷ (0xE000, 0x10FFFF) ∷ []
ranges_of_set posix = (0, 127) ∷ []
ranges_of_set (listed name entries) = (0, 0) ∷ (7, 13) ∷ (32, 126) ∷ map (λ (e : Name × List ℕ). (big_endian e.1, big_endian e.1)) entries

-- the values in two ranges, if there are any
abbrev pub overlap : Range → Range → List Range
overlap r s = if nat_le (max r.0 s.0) (min r.1 s.1) then (max r.0 s.0, min r.1 s.1) ∷ [] else []

-- those in a range and in one of some ranges
abbrev pub overlap_each : Range → List Range → List Range
overlap_each r [] = []
overlap_each r (s ∷ ss) = overlap r s ++ overlap_each r ss

-- those in one of some ranges and in one of others
abbrev pub overlaps : List Range → List Range → List Range
overlaps [] ss = []
overlaps (r ∷ rs) ss = overlap_each r ss ++ overlaps rs ss

-- the characters of a set that are in one of these ranges, as ranges in order
unfoldable pub characters : CodedSet → List Range → List Range
characters set ranges = ranges_of (overlaps (ranges_of_set set) ranges)
