-- Limits, as numbers (our own).
use Rattle.std.specs.Prelude.{ℕ}

-- how many rows there are
abbrev pub ROW_COUNT : ℕ
ROW_COUNT = 77
