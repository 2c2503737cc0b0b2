-- The names and the rules of reasons and refusals, in the order of their numbers (our own).
use Rattle.std.specs.Prelude.{ℕ, List, [], ◌∷◌, slice_get, unwrap_or, codes}
use Rattle.std.specs.Option.{option_map}
use Rattle.reason_rules.specs.declared.table.ReasonRow.{ReasonRow}

-- what a row says: its name, and its rule
abbrev pub row_said : ReasonRow → List ℕ × List ℕ
row_said row = (row.name.now, row.rule.now)

-- the table
unfoldable pub rule_table : List (List ℕ × List ℕ)
rule_table =
    (codes "BadLine directive", codes "a line that begins with `.` is a directive with the words that it wants, and `.native` stands at most once") ∷
    (codes "BadLine thread", codes "a command stands behind a `.thread` line of its round") ∷
    (codes "BadLine command", codes "the first word of a command is one of the commands") ∷
    (codes "BadLine argument", codes "a command has just the words that it wants, each of its kind") ∷
    (codes "NoEnd", codes "a block ends with `.end`, a section with `END` and its name, and a charmap has the lines `CHARMAP` and `END CHARMAP`") ∷
    (codes "OverLimit locales", codes "a bundle has at most 64 locales") ∷
    (codes "OverLimit later", codes "a bundle has at most 64 later versions") ∷
    (codes "OverLimit charmaps", codes "a bundle has at most 16 charmaps") ∷
    (codes "OverLimit threads", codes "a bundle has at most 16 threads") ∷
    (codes "OverLimit rounds", codes "a bundle has at most 64 rounds") ∷
    (codes "OverLimit commands", codes "a bundle has at most 20000 commands") ∷
    (codes "OverLimit format", codes "the format of a command has at most 1024 bytes") ∷
    (codes "OverLimit amounts", codes "a command has at most 64 amounts") ∷
    (codes "OverLimit numbers", codes "a command has at most 64 numbers") ∷
    (codes "OverLimit text", codes "a text of a command has at most 1024 bytes") ∷
    (codes "OverLimit catalogs", codes "a bundle has at most 64 message catalogs") ∷
    (codes "OverLimit names", codes "a charmap has at most 65536 names") ∷
    (codes "OverLimit operands", codes "a line has at most 65536 operands") ∷
    (codes "OverLimit string", codes "a text of a source has at most 256 bytes") ∷
    (codes "OverLimit list", codes "the texts of `era` and of `alt_digits` have at most 4096 bytes together, the `;` between them counted") ∷
    (codes "OverLimit conversions", codes "a format of a locale has at most 16 conversions, `%%` counted as one") ∷
    (codes "OverLimit message", codes "a message has at most 4096 bytes") ∷
    (codes "OverLimit messages", codes "a message catalog has at most 4096 messages") ∷
    (codes "NameTwice", codes "a name, a key or a character's name is given once") ∷
    (codes "NoCharmap", codes "a charset is `UTF-8`, `POSIX` or a charmap of the bundle") ∷
    (codes "NoNative", codes "`.native` names `C`, `POSIX` or a locale of the bundle") ∷
    (codes "NoThread", codes "a handle or a cell is one of a thread that a `.thread` line names") ∷
    (codes "NoLater", codes "`install` names the key of a `.later` line") ∷
    (codes "BadHeader", codes "a line in front of `CHARMAP` is one of the header lines, with its operand") ∷
    (codes "BadEncoding", codes "a line of a charmap is a name or a range and then an encoding, whose first byte of several is not 0 and which does not pass its greatest value within the range") ∷
    (codes "RangeBackward", codes "a range goes from a name to one with the same front and a number that is not less") ∷
    (codes "PortableMoved", codes "a character of the portable set has its own code as its encoding") ∷
    (codes "WrongOperand", codes "an operand is of the kind that its keyword wants, operands have a `;` between them, there is none too few or too many, and no range runs backward") ∷
    (codes "BadEscape", codes "behind the escape character come the digits of a byte from 0 to 255") ∷
    (codes "OpenString", codes "a text ends with a quote") ∷
    (codes "OpenName", codes "the name of a character ends with `>` before a blank") ∷
    (codes "SectionTwice", codes "a source has at most one section of each category") ∷
    (codes "UnknownKeyword", codes "a line of a section begins with a keyword of its category, and each line outside of sections is a comment or a header") ∷
    (codes "KeywordTwice", codes "a section gives each keyword once, but for `charclass`") ∷
    (codes "CopyNotAlone", codes "a section that copies has no other line") ∷
    (codes "UnknownCharacter", codes "a name or the bytes of an operand are characters of the charset") ∷
    (codes "CopyMissing", codes "the locale that a copy names is there, and has the category") ∷
    (codes "CopyCycle", codes "copies end at a section that does not copy") ∷
    (codes "BadClassName", codes "the name of a class has 1 to 14 letters and digits, a letter first, and is not taken") ∷
    (codes "DigitsNotTen", codes "the operands of `digit` are the ten digits") ∷
    (codes "NotCased", codes "the characters of a pair are in `upper` or in `lower`") ∷
    (codes "Excluded", codes "two classes that exclude one another share no character") ∷
    (codes "EmptyRadix", codes "`decimal_point` is not empty") ∷
    (codes "BadCurrency", codes "`int_curr_symbol` has 0 or 4 bytes") ∷
    (codes "BadNumber", codes "a number is from -1 to 126 in a grouping, to 18 for digits behind the point, to 1 for `cs_precedes`, to 2 for `sep_by_space` and to 4 for `sign_posn`") ∷
    (codes "WrongCount", codes "`day` and `abday` have 7 texts, `mon` and `abmon` 12, `am_pm` 2, and each other keyword of LC_TIME 1, but for `era` and `alt_digits`") ∷
    (codes "BadEra", codes "a text of `era` is direction:offset:start:end:name:format") ∷
    (codes "BadFormat", codes "a `%` of a format begins a conversion: of a time one of aAbBcCdDeFgGhHIjmMnprRStTuUVwWxXyYzZ%, or E and one of cCxXyY, or O and one of deHImMSuUVwWy; of an amount i, n or %; of a number d, i, u or %, and for `locale_tool number` f") ∷
    (codes "FormatRank", codes "a format of a locale has only conversions of a lower rank than its own") ∷
    (codes "TooManyDigits", codes "there are at most 100 alternative digits") ∷
    (codes "BadMessage", codes "a line of a message catalog is a comment, a directive or a number and a text; numbers have no leading 0, and an octal escape is at most 377") ∷
    (codes "Unset", codes "a variable is bound by an earlier accepted command of the thread") ∷
    (codes "BadMask", codes "the bits of a mask are those of the categories, below 32") ∷
    (codes "NoData", codes "the locale that is named is there, and has each category of the mask") ∷
    (codes "NoCatalog", codes "`catopen` names a catalog with the locale of LC_MESSAGES") ∷
    (codes "GlobalHandle", codes "the call wants an object, and not the global locale") ∷
    (codes "NeverMade", codes "a handle is one that a call made") ∷
    (codes "Stale", codes "a handle is one that is not freed or closed") ∷
    (codes "TooMany", codes "a thread has a free row for what it makes") ∷
    (codes "AlreadyHeld", codes "a thread holds an object once") ∷
    (codes "NotHeld", codes "a thread gives back what it holds") ∷
    (codes "EmptyCell", codes "a cell is read once something was put into it") ∷
    (codes "NoClass", codes "the class is one of the twelve, or one that the locale declares") ∷
    (codes "TmRange", codes "year is from 1 to 9999, mon from 1 to 12, mday to 31, hour from 0 to 23, min to 59, sec to 60, wday to 6, yday to 365, and offset less than a day") ∷
    (codes "MissingAmount", codes "each conversion of the format has an amount") ∷
    (codes "MissingNumber", codes "each conversion of the format has a number") ∷
    (codes "Mismatch", codes "the text meets the format") ∷
    (codes "TooBig", codes "the text has at most as many bytes as were asked for") ∷
    (codes "CarriageReturn", codes "a line of a source ends with LF alone; a CR is a byte of its last word") ∷
    (codes "UnknownSection", codes "a section is LC_CTYPE, LC_COLLATE, LC_MESSAGES, LC_MONETARY, LC_NUMERIC or LC_TIME; nothing is read of any other") ∷
    (codes "NoSection", codes "a source has a section") ∷
    (codes "NoCategory", codes "with `--strict` a source has each category that is read of it") ∷
    []

-- the name with a number; empty where there is none
abbrev pub name_at : ℕ → List ℕ
name_at number = unwrap_or (option_map (λ row. row.0) (slice_get rule_table number)) []

-- the rule with a number; empty where there is none
abbrev pub rule_at : ℕ → List ℕ
rule_at number = unwrap_or (option_map (λ row. row.1) (slice_get rule_table number)) []
