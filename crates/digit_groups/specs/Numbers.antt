-- The number at the front of a text (its bound is our own).
use Rattle.std.specs.Prelude.{ℕ, ◌+◌, ◌-◌, ◌*◌, nat_lt, nat_le, true, false, List, [], ◌∷◌, length, Option, Some, None, option_map, if◌then◌else◌}
use Rattle.std.specs.Char.{is_ascii_digit}
use Rattle.std.specs.List.{take_while}
use Rattle.std.specs.Str.Parse.{digits_value}

-- ---- a value with the number of bytes that it takes

-- so many bytes more
abbrev pub counted : {A : Type 0} → ℕ → A × ℕ → A × ℕ
counted n r = (r.0, r.1 + n)

-- the same where there may be no value
abbrev pub further : {A : Type 0} → ℕ → Option (A × ℕ) → Option (A × ℕ)
further n r = option_map (λ x. counted n x) r

-- ---- digits one after another

-- the number that digits are which bytes begin with, behind others of this value, and how many they are; it is at most 255
unfoldable pub number_behind : ℕ → List ℕ → Option (ℕ × ℕ)
number_behind v [] = Some (v, 0)
number_behind v (c ∷ cs) = elim (is_ascii_digit c) [
  | false ↦ Some (v, 0)
  | true ↦ elim (nat_lt 255 (v * 10 + (c - 48))) [
    | true ↦ None
    | false ↦ further 1 (number_behind (v * 10 + (c - 48)) cs)
  ]
]

-- the number that bytes begin with, 0 where no digit is there; it is the small value of their leading digits
abbrev pub leading_number : List ℕ → Option (ℕ × ℕ)
leading_number bs = number_behind 0 bs

-- ---- all digits at once

-- the digits at the front of bytes: all that stand before the first byte that is no digit
abbrev pub leading_digits : List ℕ → List ℕ
leading_digits bs = take_while is_ascii_digit bs

-- the value of digits and how many they are, where the value is at most 255
abbrev pub small_value : List ℕ → Option (ℕ × ℕ)
small_value ds = if nat_le (digits_value 10 ds) 255 then Some (digits_value 10 ds, length ds) else None
