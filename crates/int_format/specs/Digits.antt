-- Decimal digits of whole numbers.
use Rattle.std.specs.Prelude.{ℕ, max, List, length}
use Rattle.std.specs.Int.Digits.{digits_of}
use Rattle.digit_groups.specs.Digits.{last_digits}

-- how many digits a number has; 0 has none
abbrev pub digit_count : ℕ → ℕ
digit_count n = length (digits_of 10 n)

-- the digits of a number, at least so many, with zeros before them
abbrev pub digits_at_least : ℕ → ℕ → List ℕ
digits_at_least least n = last_digits (max (digit_count n) least) n
