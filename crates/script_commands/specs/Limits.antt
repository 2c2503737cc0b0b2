-- Limits, as numbers (our own).
use Rattle.std.specs.Prelude.{ℕ}

-- the most threads of a bundle
abbrev pub THREAD_LIMIT : ℕ
THREAD_LIMIT = 16
