-- Limits, as numbers (our own).
use Rattle.std.specs.Prelude.{ℕ}

-- the most bytes of an input
abbrev pub INPUT_LIMIT : ℕ
INPUT_LIMIT = 16777216

-- the rows of each thread, where the words do not say
abbrev pub DEFAULT_ROWS : ℕ
DEFAULT_ROWS = 16

-- the most rows of each thread
abbrev pub MOST_ROWS : ℕ
MOST_ROWS = 64

-- how many objects a row has in all its time, where the words do not say
abbrev pub DEFAULT_GENERATIONS : ℕ
DEFAULT_GENERATIONS = 65535

-- the most objects of a row in all its time
abbrev pub MOST_GENERATIONS : ℕ
MOST_GENERATIONS = 2147483647
