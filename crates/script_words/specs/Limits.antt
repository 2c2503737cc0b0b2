-- Limits, as numbers (our own).
use Rattle.std.specs.Prelude.{ℕ}

-- the most bytes of a locale's or a charmap's name
abbrev pub LOCALE_NAME_LIMIT : ℕ
LOCALE_NAME_LIMIT = 64

-- the most bytes of a thread's name
abbrev pub THREAD_NAME_LIMIT : ℕ
THREAD_NAME_LIMIT = 16

-- the most bytes of a character class's name
abbrev pub CLASS_NAME_LIMIT : ℕ
CLASS_NAME_LIMIT = 14

-- the most bytes of a format
abbrev pub FORMAT_LIMIT : ℕ
FORMAT_LIMIT = 1024

-- the most bytes of a text, where a command says how many there may be
abbrev pub MAX_LIMIT : ℕ
MAX_LIMIT = 4096

-- the most bytes of a text, where a command does not say it
abbrev pub DEFAULT_MAX : ℕ
DEFAULT_MAX = 1024

-- the most amounts of a command
abbrev pub AMOUNT_LIMIT : ℕ
AMOUNT_LIMIT = 64

-- the most digits of an amount in front of its point
abbrev pub WHOLE_DIGITS : ℕ
WHOLE_DIGITS = 19

-- the most digits of an amount behind its point
abbrev pub FRACTION_DIGITS : ℕ
FRACTION_DIGITS = 18

-- the most numbers of a command
abbrev pub NUMBER_LIMIT : ℕ
NUMBER_LIMIT = 64

-- the most digits of a number
abbrev pub NUMBER_DIGITS : ℕ
NUMBER_DIGITS = 20

-- the most bytes of a text that a command is given in quotes
abbrev pub TEXT_LIMIT : ℕ
TEXT_LIMIT = 1024

-- the most digits of a number of a time
abbrev pub TIME_DIGITS : ℕ
TIME_DIGITS = 9

-- the most bytes of the name of a time zone
abbrev pub ZONE_LIMIT : ℕ
ZONE_LIMIT = 32
