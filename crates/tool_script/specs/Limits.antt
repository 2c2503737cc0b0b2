-- Limits, as numbers (our own).
use Rattle.std.specs.Prelude.{ℕ}

-- the rows of each thread
abbrev pub ROWS : ℕ
ROWS = 16

-- how many objects a row has in all its time
abbrev pub GENERATIONS : ℕ
GENERATIONS = 65535
