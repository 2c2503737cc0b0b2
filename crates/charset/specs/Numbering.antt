-- The numbers at the ends of names, by which a range of names counts (XBD 6.4; what follows the largest number of its width is our own rule).
use Rattle.std.specs.Prelude.{ℕ, ◌+◌, ◌-◌, List, ◌++◌, length, take, drop, map, reverse, replicate}
use Rattle.std.specs.Char.{is_ascii_digit}
use Rattle.std.specs.List.{take_while}
use Rattle.std.specs.Int.Digits.{digits_of}
use Rattle.std.specs.Str.Parse.{digits_value}
use Rattle.charset.specs.Portable.{Name}

-- how many digits a name ends in
abbrev pub digit_count : Name → ℕ
digit_count name = length (take_while is_ascii_digit (reverse name))

-- the part of a name before these digits
abbrev pub stem : Name → Name
stem name = take (length name - digit_count name) name

-- the digits that a name ends in
abbrev pub digits : Name → List ℕ
digits name = drop (length name - digit_count name) name

-- the number that a name ends in
abbrev pub number : Name → ℕ
number name = digits_value 10 (digits name)

-- a number in decimal digits, with zeros in front where it has fewer than so many
unfoldable pub padded : ℕ → ℕ → List ℕ
padded width n =
    let ds = map (λ d. 48 + d) (digits_of 10 n) in
    replicate (width - length ds) 48 ++ ds

-- the name with this place in a range from this name on, counted from 0: as many digits as the first one has, or more
-- where needed
abbrev pub name_after : Name → ℕ → Name
name_after first k = stem first ++ padded (length (digits first)) (number first + k)
