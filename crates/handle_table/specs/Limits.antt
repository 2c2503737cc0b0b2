-- Limits, as numbers (our own).
use Rattle.std.specs.Prelude.{ℕ}

-- the most threads that a table is made for
abbrev pub MAX_THREADS : ℕ
MAX_THREADS = 16
