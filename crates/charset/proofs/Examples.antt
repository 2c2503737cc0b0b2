-- The definitions, tried on small examples.
use Rattle.std.proofs.Common.{◌≡◌, ℕ, zero, suc, Bool, true, false, ◌||◌, List, [], ◌∷◌, length, map, Some, None, codes, refl, arith}
use Rattle.std.specs.Bool.{◌==◌}
use Rattle.std.specs.List.{filter, list_any}
use Rattle.std.specs.Char.{encode_utf8, is_ascii_alphabetic}
use Rattle.std.specs.Str.{chars}
use Rattle.std.specs.Int.{bytes_high_first}
use Rattle.std.proofs.lemmas.Bool.Decides.{nat_tests}
use Rattle.charset.specs.CodedSet.{CodedSet, utf8, posix, listed, set_name, has, named, encoded, valued, IsNextRun}
use Rattle.charset.specs.ShortBytes.{shortest}
use Rattle.charset.specs.Hex.{numbered}
use Rattle.charset.specs.Portable.{Name, portable_code, portable_names, is_portable}
use Rattle.charset.specs.Numbering.{padded}
use Rattle.charset.specs.CharacterNames.{valued_names}
use Rattle.charset.specs.Entries.{added}

-- 51 characters, of which eight have a second name; letters name themselves
names : length portable_names ≡ 59
names = refl

-- the numbers below one
below : ℕ → List ℕ
below zero = []
below (suc n) = n ∷ below n

-- whether a letter or an entry has a code
has_name : ℕ → Bool
has_name c = is_ascii_alphabetic c || list_any (λ (entry : Name × ℕ). entry.1 == c) portable_names

-- there are 103 of them, and these have names, and no others
portable_count : length (filter is_portable (below 128)) ≡ 103
unfolding below
portable_count = refl

portable_named : filter has_name (below 128) ≡ filter is_portable (below 128)
unfolding below has_name
portable_named = refl

portable : map (λ name. portable_code name) (codes "A" ∷ codes "z" ∷ codes "NUL" ∷ codes "hyphen-minus" ∷ codes "tilde" ∷ codes "" ∷ codes "0" ∷ codes "AA" ∷ codes "Space" ∷ [])
    ≡ Some 65 ∷ Some 122 ∷ Some 0 ∷ Some 45 ∷ Some 126 ∷ None ∷ None ∷ None ∷ None ∷ []
unfolding portable_code
portable = refl

-- names with numbers in UTF-8: four or eight digits of either case, and no surrogate
scalars : map (named utf8) (codes "U20ac" ∷ codes "U20AC" ∷ codes "U000020AC" ∷ codes "UD7FF" ∷ codes "UE000" ∷ codes "U0010FFFF" ∷ [])
    ≡ Some 0x20AC ∷ Some 0x20AC ∷ Some 0x20AC ∷ Some 0xD7FF ∷ Some 0xE000 ∷ Some 0x10FFFF ∷ []
unfolding portable_code numbered
scalars = refl

no_scalars : map (named utf8) (codes "UD800" ∷ codes "U0000DFFF" ∷ codes "U00110000" ∷ codes "UFFFFFFFF" ∷ codes "U020AC" ∷ codes "U41" ∷ codes "u0041" ∷ codes "U00G1" ∷ codes "U+041" ∷ [])
    ≡ None ∷ None ∷ None ∷ None ∷ None ∷ None ∷ None ∷ None ∷ None ∷ []
unfolding portable_code numbered
no_scalars = refl

-- names in the charset POSIX
posix_names : map (named posix) (codes "U0000" ∷ codes "U007f" ∷ codes "asterisk" ∷ codes "U0080" ∷ codes "U00000041" ∷ codes "e-acute" ∷ [])
    ≡ Some 0 ∷ Some 127 ∷ Some 42 ∷ None ∷ None ∷ None ∷ []
unfolding portable_code numbered
posix_names = refl

-- encodings
euro : encoded utf8 0x20AC ≡ Some (0xE2 ∷ 0x82 ∷ 0xAC ∷ [])
unfolding encode_utf8
euro = refl

no_code : (encoded utf8 0xDC00 ≡ None) × (encoded utf8 0x110000 ≡ None) × (encoded posix 0x80 ≡ None) × (encoded posix 0x7F ≡ Some (0x7F ∷ []))
no_code = (refl, refl, refl, refl)

-- bytes that are one character, and bytes that are none: overlong, a surrogate, past the last, cut short, too long, none at all
bytes_one : map (valued utf8) ((0xE2 ∷ 0x82 ∷ 0xAC ∷ []) ∷ (0x41 ∷ []) ∷ (0xF4 ∷ 0x8F ∷ 0xBF ∷ 0xBF ∷ []) ∷ []) ≡ Some 0x20AC ∷ Some 0x41 ∷ Some 0x10FFFF ∷ []
unfolding valued encode_utf8 chars
bytes_one = refl

bytes_none : map (valued utf8) ((0xC1 ∷ 0x81 ∷ []) ∷ (0xED ∷ 0xA0 ∷ 0x80 ∷ []) ∷ (0xF4 ∷ 0x90 ∷ 0x80 ∷ 0x80 ∷ []) ∷ (0xE2 ∷ 0x82 ∷ []) ∷ (0x41 ∷ 0x42 ∷ []) ∷ [] ∷ [])
    ≡ None ∷ None ∷ None ∷ None ∷ None ∷ None ∷ []
unfolding valued encode_utf8 chars
bytes_none = refl

posix_bytes : map (valued posix) ((0x7F ∷ []) ∷ (0x80 ∷ []) ∷ (0x41 ∷ 0x41 ∷ []) ∷ [] ∷ []) ≡ Some 0x7F ∷ None ∷ None ∷ None ∷ []
unfolding valued
posix_bytes = refl

-- a charset of a charmap with two names of one character, and one of two bytes
demo : CodedSet
demo = listed (codes "DEMO") ((codes "e-acute", 0xE9 ∷ []) ∷ (codes "eacute", 0xE9 ∷ []) ∷ (codes "j0103", 0x82 ∷ 0 ∷ []) ∷ [])

demo_names : map (named demo) (codes "eacute" ∷ codes "j0103" ∷ codes "B" ∷ codes "j0104" ∷ []) ≡ Some 0xE9 ∷ Some 0x8200 ∷ Some 66 ∷ None ∷ []
unfolding demo portable_code
demo_names = refl

demo_codes : map (encoded demo) (0xE9 ∷ 0x8200 ∷ 66 ∷ 0x8201 ∷ 31 ∷ []) ≡ Some (0xE9 ∷ []) ∷ Some (0x82 ∷ 0 ∷ []) ∷ Some (66 ∷ []) ∷ None ∷ None ∷ []
unfolding demo
demo_codes = refl

demo_bytes : map (valued demo) ((0x82 ∷ 0 ∷ []) ∷ (0xE9 ∷ []) ∷ (0x82 ∷ []) ∷ []) ≡ Some 0x8200 ∷ Some 0xE9 ∷ None ∷ []
unfolding demo valued
demo_bytes = refl

demo_has : map (has demo) (0xE9 ∷ 0x8200 ∷ 0 ∷ 7 ∷ 13 ∷ 14 ∷ 126 ∷ 127 ∷ []) ≡ true ∷ true ∷ true ∷ true ∷ true ∷ false ∷ true ∷ false ∷ []
unfolding demo
demo_has = refl

set_names : (set_name utf8 ≡ codes "UTF-8") × (set_name posix ≡ codes "US-ASCII") × (set_name demo ≡ codes "DEMO")
unfolding demo
set_names = (refl, refl, refl)

-- ---- encodings

-- as few bytes as a number needs, and one for 0
fewest : map shortest (0 ∷ 65 ∷ 255 ∷ 256 ∷ 65535 ∷ 65536 ∷ 16777215 ∷ 16777216 ∷ 4294967295 ∷ [])
    ≡ (0 ∷ []) ∷ (65 ∷ []) ∷ (255 ∷ []) ∷ (1 ∷ 0 ∷ []) ∷ (255 ∷ 255 ∷ []) ∷ (1 ∷ 0 ∷ 0 ∷ []) ∷ (255 ∷ 255 ∷ 255 ∷ []) ∷ (1 ∷ 0 ∷ 0 ∷ 0 ∷ []) ∷ (255 ∷ 255 ∷ 255 ∷ 255 ∷ []) ∷ []
fewest = refl

-- just so many bytes
counted : map (bytes_high_first 2) (0 ∷ 255 ∷ 256 ∷ 33280 ∷ []) ≡ (0 ∷ 0 ∷ []) ∷ (0 ∷ 255 ∷ []) ∷ (1 ∷ 0 ∷ []) ∷ (130 ∷ 0 ∷ []) ∷ []
counted = refl

-- ---- runs

-- from a value inside a run: to its end
inside : IsNextRun posix 100 (Some (100, 127))
inside = record { within = (omega arith, omega arith); least = λ v above below. absurd (omega arith); unbroken = λ v above below. grind (arith, nat_tests); whole = refl }

-- from a value in a gap: the run behind it, as over the surrogates
over : IsNextRun utf8 0xD800 (Some (0xE000, 0x10FFFF))
over = record { within = (omega arith, omega arith); least = λ v above below. grind (arith, nat_tests); unbroken = λ v above below. grind (arith, nat_tests); whole = refl }

-- behind the last run: none
behind : IsNextRun posix 128 None
behind = λ v above. grind (arith, nat_tests)

-- no answer that begins early or late, stops short or goes on too far, and none where there is one
begins_early : IsNextRun posix 100 (Some (99, 127)) → ⊥
begins_early run = omega (arith, run.within.0)

begins_late : IsNextRun posix 100 (Some (101, 127)) → ⊥
begins_late run = let none : true ≡ false = run.least 100 (omega arith) (omega arith) in cc

stops_short : IsNextRun posix 100 (Some (100, 126)) → ⊥
stops_short run = let none : true ≡ false = run.whole in cc

goes_on : IsNextRun utf8 0xD700 (Some (0xD700, 0xE000)) → ⊥
goes_on run = let none : false ≡ true = run.unbroken 0xD800 (omega arith) (omega arith) in cc

says_none : IsNextRun posix 100 None → ⊥
says_none none = let other : true ≡ false = none 100 (omega arith) in cc

-- ---- entries of a charmap

-- a range counts on past its width, and its values with it
range_of_names : valued_names (codes "j8") 255 2 ≡ (codes "j8", 255 ∷ []) ∷ (codes "j9", 1 ∷ 0 ∷ []) ∷ (codes "j10", 1 ∷ 1 ∷ []) ∷ []
unfolding padded
range_of_names = refl

-- new names are added in their order
all_new : added ((codes "a", 1 ∷ []) ∷ []) ((codes "c", 3 ∷ []) ∷ (codes "b", 3 ∷ []) ∷ []) ≡ Some ((codes "a", 1 ∷ []) ∷ (codes "c", 3 ∷ []) ∷ (codes "b", 3 ∷ []) ∷ [])
all_new = refl

-- nothing is added where a name was given before, or is given twice
given_before : added ((codes "a", 1 ∷ []) ∷ []) ((codes "b", 2 ∷ []) ∷ (codes "a", 3 ∷ []) ∷ []) ≡ None
given_before = refl

given_twice : added [] ((codes "b", 2 ∷ []) ∷ (codes "b", 2 ∷ []) ∷ []) ≡ None
given_twice = refl
