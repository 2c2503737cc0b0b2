-- Limits, as numbers (our own).
use Rattle.std.specs.Prelude.{ℕ}

-- the most bytes of a text (our own rule)
abbrev pub TEXT_LIMIT : ℕ
TEXT_LIMIT = 256
