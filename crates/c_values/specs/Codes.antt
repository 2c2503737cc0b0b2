-- The codes of answers, as numbers (our own).
use Rattle.std.specs.Prelude.{ℕ}

-- the call did what it says
abbrev pub OK : ℕ
OK = 0

-- out of memory
abbrev pub NO_MEMORY : ℕ
NO_MEMORY = 1

-- the text has 2^31 bytes or more
abbrev pub TOO_LONG : ℕ
TOO_LONG = 2

-- the text breaks a rule
abbrev pub BAD_TEXT : ℕ
BAD_TEXT = 3

-- the locale is not one of the library
abbrev pub NO_LOCALE : ℕ
NO_LOCALE = 4

-- the mask has a bit that no category has
abbrev pub BAD_MASK : ℕ
BAD_MASK = 5

-- no locale with the name has data for a category
abbrev pub NO_DATA : ℕ
NO_DATA = 6

-- the text does not fit into the buffer
abbrev pub TOO_SMALL : ℕ
TOO_SMALL = 7

-- a `%` begins no conversion
abbrev pub BAD_FORMAT : ℕ
BAD_FORMAT = 8

-- a conversion has no argument
abbrev pub MISSING : ℕ
MISSING = 9

-- the scale of an amount is over 18
abbrev pub BAD_AMOUNT : ℕ
BAD_AMOUNT = 10

-- a field of a time is out of its range
abbrev pub TM_RANGE : ℕ
TM_RANGE = 11

-- there is no such item
abbrev pub NO_ITEM : ℕ
NO_ITEM = 12

-- there is no such class
abbrev pub NO_CLASS : ℕ
NO_CLASS = 13

-- the text does not meet the format
abbrev pub MISMATCH : ℕ
MISMATCH = 14

-- the charset of the locale is not UTF-8
abbrev pub NOT_UTF8 : ℕ
NOT_UTF8 = 15

-- the text is not UTF-8 at a byte
abbrev pub BAD_CHARACTER : ℕ
BAD_CHARACTER = 16

-- there are too many parts of a kind, or too many locales or catalogs together
abbrev pub TOO_MANY : ℕ
TOO_MANY = 17

-- a name or a label of a part is not formed as one
abbrev pub BAD_NAME : ℕ
BAD_NAME = 18

-- another part of the kind has the name already
abbrev pub NAME_TWICE : ℕ
NAME_TWICE = 19

-- the charset of a source is neither built in nor a charmap among the parts
abbrev pub NO_CHARMAP : ℕ
NO_CHARMAP = 20

-- there is no such catalog
abbrev pub NO_CATALOG : ℕ
NO_CATALOG = 21

-- the catalog has no such message
abbrev pub NO_MESSAGE : ℕ
NO_MESSAGE = 22
