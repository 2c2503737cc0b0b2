-- Cells of threads, by number (our own).
use Rattle.std.specs.Prelude.{ℕ}

-- how many cells a thread has for handles that it hands to others: 8, numbered from 0
abbrev pub CELLS : ℕ
CELLS = 8
