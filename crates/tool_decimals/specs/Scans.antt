-- The number that a text is in a locale, read from left to right, or its first fault (XBD 7.3.4; the limit and the faults are our own).
use Rattle.std.specs.Prelude.{ℕ, zero, suc, ◌+◌, ◌-◌, ◌==◌, nat_eq, nat_lt, Bool, true, false, ◌||◌, List, [], ◌∷◌, ◌++◌, length, take, drop, Option, Some, None, is_some, option_map, Result, Ok, Err, if◌then◌else◌}
use Rattle.std.specs.Char.{is_ascii_digit}
use Rattle.std.specs.List.{prefix_len, common_prefix_len, starts_with}
use Rattle.std.specs.Str.{bytes_eq}
use Rattle.digit_groups.specs.Groups.{grouped}
use Rattle.numeric_cat.specs.NumericValues.{NumericValues}
use Rattle.tool_decimals.specs.declared.read.NumberFault.{NumberFault}
use Rattle.tool_decimals.specs.declared.read.NumberWhy.{NumberWhy}
use Rattle.tool_decimals.specs.declared.read.NumberWhy.TheVariants.{NoDigit, NoFraction, OtherByte, OtherGroups, ManyDigits}
use Rattle.tool_decimals.specs.Decimals.{Number}
use Rattle.tool_decimals.specs.Limits.{DIGITS_OF_A_NUMBER}
use Rattle.tool_decimals.specs.Readings.{first_digit}

-- why a text is no number, and the byte where that shows
abbrev pub fault : {A : Type 0} → NumberWhy → ℕ → Result A NumberFault
fault why at = Err (record { why = why; at = at })

-- what is read behind something, unless that has a fault
abbrev pub and_then : {A B : Type 0} → Result A NumberFault → (A → Result B NumberFault) → Result B NumberFault
and_then (Ok x) read = read x
and_then (Err f) read = Err f

-- digits and the place behind them, with further digits in front
abbrev pub behind_digits : List ℕ → Result (List ℕ × ℕ) NumberFault → Result (List ℕ × ℕ) NumberFault
behind_digits ds read = and_then read (λ r. Ok (ds ++ r.0, r.1))

-- the digit that bytes begin with behind a separator, and how many bytes stand in front of it
abbrev pub digit_behind : List ℕ → List ℕ → Option (ℕ × ℕ)
digit_behind sep bs = if starts_with nat_eq bs sep then option_map (λ d. (d, length sep)) (first_digit (drop (length sep) bs)) else None

-- the digit that bytes begin with, perhaps behind a separator, and how many bytes stand in front of it
abbrev pub digit_at : List ℕ → List ℕ → Option (ℕ × ℕ)
digit_at sep bs = elim (first_digit bs) [
  | Some d ↦ Some (d, 0)
  | None ↦ digit_behind sep bs
]

-- a digit at a place before those that are read behind it, if there is room for it
abbrev pub with_digit : Bool → ℕ → ℕ → Result (List ℕ × ℕ) NumberFault → Result (List ℕ × ℕ) NumberFault
with_digit true d at read = behind_digits (d ∷ []) read
with_digit false d at read = fault ManyDigits at

-- the digits that bytes at a place begin with, with separators between them, behind so many bytes that belong to one before them, and the place behind them; one digit more than there is room for is a fault
unfoldable pub digits_at : List ℕ → ℕ → ℕ → ℕ → List ℕ → Result (List ℕ × ℕ) NumberFault
digits_at sep room skip at [] = Ok ([], at)
digits_at sep room (suc skip) at (c ∷ cs) = digits_at sep room skip (at + 1) cs
digits_at sep room zero at (c ∷ cs) = elim (digit_at sep (c ∷ cs)) [
  | None ↦ Ok ([], at)
  | Some x ↦ with_digit (nat_lt 0 room) x.0 (at + x.1) (digits_at sep (room - 1) x.1 (at + 1) cs)
]

-- digits and the place behind them, where the bytes that they were read from are those digits in groups, or without; else the first byte that is not as in groups
abbrev pub in_groups : List ℕ → ℕ → List ℕ → List ℕ × ℕ → Result (List ℕ × ℕ) NumberFault
in_groups groups at bytes r =
    if bytes_eq bytes groups || bytes_eq bytes r.0 then Ok r else fault OtherGroups (at + common_prefix_len nat_eq bytes groups)

-- the digits before the decimal point, which bytes at a place begin with, and the place behind them
abbrev pub whole_at : NumericValues → ℕ → List ℕ → Result (List ℕ × ℕ) NumberFault
whole_at n at bs =
    if is_some (first_digit bs)
    then and_then (digits_at n.thousands_sep DIGITS_OF_A_NUMBER 0 at bs) (λ r. in_groups (grouped r.0 n.grouping n.thousands_sep) at (take (r.1 - at) bs) r)
    else fault NoDigit at

-- digits that are all of the bytes at a place, one at least and at most so many
abbrev pub fraction_digits : ℕ → ℕ → List ℕ → Result (List ℕ) NumberFault
fraction_digits room at bs =
    if prefix_len is_ascii_digit bs == 0 then fault NoFraction at
    else if nat_lt room (prefix_len is_ascii_digit bs) then fault ManyDigits (at + room)
    else if nat_lt (prefix_len is_ascii_digit bs) (length bs) then fault OtherByte (at + prefix_len is_ascii_digit bs)
    else Ok bs

-- the digits behind the decimal point, with which bytes at a place begin; none where there are no bytes
abbrev pub fraction_at : List ℕ → ℕ → ℕ → List ℕ → Result (List ℕ) NumberFault
fraction_at point room at [] = Ok []
fraction_at point room at (c ∷ cs) =
    if starts_with nat_eq (c ∷ cs) point then fraction_digits room (at + length point) (drop (length point) (c ∷ cs)) else fault OtherByte at

-- whether a `-` stands in front
abbrev pub has_minus : List ℕ → Bool
has_minus [] = false
has_minus (c ∷ cs) = c == 45

-- how many bytes the sign takes
abbrev pub sign_length : List ℕ → ℕ
sign_length text = if has_minus text then 1 else 0

-- the number that a text is, or its first fault
unfoldable pub reading : NumericValues → List ℕ → Result Number NumberFault
reading n text =
    and_then (whole_at n (sign_length text) (drop (sign_length text) text)) (λ w.
    and_then (fraction_at n.decimal_point (DIGITS_OF_A_NUMBER - length w.0) w.1 (drop w.1 text)) (λ fraction.
    Ok (record { has_minus = has_minus text; whole = w.0; fraction = fraction })))
