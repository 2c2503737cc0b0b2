-- Limits, as numbers (our own).
use Rattle.std.specs.Prelude.{ℕ}

-- the most names of a charmap (our own rule)
abbrev pub NAME_LIMIT : ℕ
NAME_LIMIT = 65536
