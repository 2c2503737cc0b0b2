-- Decimal numbers (our own).
use Rattle.std.specs.Prelude.{ℕ, ◌^◌, ◌==◌, ◌&&◌, ◌||◌, not, nat_lt, List, length, Option, Some, None, if◌then◌else◌}
use Rattle.std.specs.Int.{is_in_range}
use Rattle.std.specs.Char.{is_ascii_digit}
use Rattle.std.specs.List.{list_all}
use Rattle.std.specs.Str.Parse.{digits_value}

-- the value of digits, where it has 32 bits
abbrev pub small_value : List ℕ → Option ℕ
small_value ds = if nat_lt (digits_value 10 ds) (2 ^ 32) then Some (digits_value 10 ds) else None

-- a number of 32 bits in decimal digits, perhaps with leading zeros
unfoldable pub decimal_number : List ℕ → Option ℕ
decimal_number w = if (length w == 0) || not (list_all is_ascii_digit w) then None else small_value w

-- the value of decimal digits, at least one and at most so many
unfoldable pub few_digits : ℕ → List ℕ → Option ℕ
few_digits most ds = if is_in_range 1 most (length ds) && list_all is_ascii_digit ds then Some (digits_value 10 ds) else None
