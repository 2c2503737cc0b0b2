-- Limits, as numbers (our own).
use Rattle.std.specs.Prelude.{ℕ}

-- the most digits of a number
abbrev pub DIGITS_OF_A_NUMBER : ℕ
DIGITS_OF_A_NUMBER = 100

-- the most bytes of a text
abbrev pub BYTES_OF_A_TEXT : ℕ
BYTES_OF_A_TEXT = 1048576

-- the greatest column that a message tells
abbrev pub GREATEST_COLUMN : ℕ
GREATEST_COLUMN = 4294967295
