-- Limits, as numbers (our own).
use Rattle.std.specs.Prelude.{ℕ}

-- the most parts of a kind
abbrev pub PART_LIMIT : ℕ
PART_LIMIT = 4096

-- how long a text is at least that is too long, and behind how many lines it is
abbrev pub SIZE_LIMIT : ℕ
SIZE_LIMIT = 2147483648
