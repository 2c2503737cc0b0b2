-- Limits, as numbers (our own).
use Rattle.std.specs.Prelude.{ℕ}

-- the most commands of a made bundle
abbrev pub MOST_COMMANDS : ℕ
MOST_COMMANDS = 20000
