-- Numbers by their decimal digits.
use Rattle.std.specs.Prelude.{ℕ, zero, suc, ◌+◌, ◌/◌, ◌%◌, max, List, [], ◌∷◌, ◌++◌, length}
use Rattle.std.specs.Int.Digits.{digits_of}

-- how many digits a whole number has, at least one
abbrev pub digit_count : ℕ → ℕ
digit_count n = max 1 (length (digits_of 10 n))

-- the last k decimal digits of a number
unfoldable pub last_digits : ℕ → ℕ → List ℕ
last_digits zero n = []
last_digits (suc k) n = last_digits k (n / 10) ++ (48 + n % 10) ∷ []

-- the number that stands before them
unfoldable pub without_last : ℕ → ℕ → ℕ
without_last zero n = n
without_last (suc k) n = without_last k (n / 10)
