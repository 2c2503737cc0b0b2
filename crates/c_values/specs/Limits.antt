-- Limits, as numbers (our own).
use Rattle.std.specs.Prelude.{ℕ}

-- the most amounts, or numbers, of a call that are looked at
abbrev pub MOST : ℕ
MOST = 64

-- the version of the library: 100 of a major version and 1 of a minor one
abbrev pub VERSION : ℕ
VERSION = 100
