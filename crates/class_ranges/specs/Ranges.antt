-- Sets of wide values as ranges, each from a first value to a last one (our own).
use Rattle.std.specs.Prelude.{◌≡◌, ℕ, ◌+◌, ◌<◌, ◌≤◌, min, max, Bool, true, false, nat_lt, nat_le, List, [], ◌∷◌, Option, Some, None, All, AllPairs, if◌then◌else◌}
use Rattle.std.specs.List.{list_any}
use Rattle.std.specs.Int.{is_in_range}
use Rattle.std.specs.Option.{option_or}

-- a first and a last value
abbrev pub Range : Type 0
Range = ℕ × ℕ

-- whether a value is in one of these ranges
abbrev pub covers : List Range → ℕ → Bool
covers ranges w = list_any (λ range. is_in_range range.0 range.1 w) ranges

-- ranges in order, disjoint and not adjacent: there is a gap between any two
pub record IsApart (ranges : List Range) : Type 0 where
  pub forward : All (λ range. range.0 ≤ range.1) ranges
  pub apart : AllPairs (λ range next. range.1 + 1 < next.0) ranges

-- ranges in order with one more: those that it meets or touches become one range with it
abbrev pub with_range : Range → List Range → List Range
with_range r [] = r ∷ []
with_range r (s ∷ ss) =
    if nat_lt (r.1 + 1) s.0 then r ∷ s ∷ ss
    else (if nat_lt (s.1 + 1) r.0 then s ∷ with_range r ss
    else with_range (min r.0 s.0, max r.1 s.1) ss)

-- the ranges in order of the values that are in at least one of these
abbrev pub ranges_of : List Range → List Range
ranges_of [] = []
ranges_of (r ∷ rs) = with_range r (ranges_of rs)

-- the least value of a range that is in one of these ranges in order
abbrev pub first_in : Range → List Range → Option ℕ
first_in r [] = None
first_in r (s ∷ ss) = if nat_le (max r.0 s.0) (min r.1 s.1) then Some (max r.0 s.0) else first_in r ss

-- the least value in two sets of ranges in order
abbrev pub first_common : List Range → List Range → Option ℕ
first_common [] ss = None
first_common (r ∷ rs) ss = option_or (first_in r ss) (first_common rs ss)

-- an answer is the least value of which a test holds, or none where it holds of no value
abbrev pub IsLeast : (ℕ → Bool) → Option ℕ → Type 0
IsLeast test None = (w : ℕ) → test w ≡ false
IsLeast test (Some w) = (test w ≡ true) × ((v : ℕ) → v < w → test v ≡ false)
