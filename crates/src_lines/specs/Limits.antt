-- Limits, as numbers (our own).
use Rattle.std.specs.Prelude.{ℕ}

-- how many operands a line has at most
abbrev pub MAX_OPERANDS : ℕ
MAX_OPERANDS = 65536
