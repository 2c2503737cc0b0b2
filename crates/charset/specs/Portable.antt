-- The portable character set: its names and their codes (XBD 6.1, table 6-1; the codes are those of ASCII, by our own rule).
use Rattle.std.specs.Prelude.{ℕ, Bool, ◌==◌, ◌||◌, List, [], ◌∷◌, codes, Option, Some, None, if◌then◌else◌}
use Rattle.std.specs.Char.{is_ascii_alphabetic}
use Rattle.std.specs.Int.{is_in_range}
use Rattle.std.specs.Option.{option_or}
use Rattle.lc_base.specs.Tables.{first_named}

-- a name, without the signs < and > round it
abbrev pub Name : Type 0
Name = List ℕ

-- a letter names itself
abbrev pub letter_code : Name → Option ℕ
letter_code (c ∷ []) = if is_ascii_alphabetic c then Some c else None
letter_code _ = None

-- the other portable characters, by their codes; eight have two names
abbrev pub portable_names : List (Name × ℕ)
portable_names =
    (codes "NUL", 0) ∷ (codes "alert", 7) ∷ (codes "backspace", 8) ∷ (codes "tab", 9) ∷
    (codes "newline", 10) ∷ (codes "vertical-tab", 11) ∷ (codes "form-feed", 12) ∷ (codes "carriage-return", 13) ∷
    (codes "space", 32) ∷ (codes "exclamation-mark", 33) ∷ (codes "quotation-mark", 34) ∷ (codes "number-sign", 35) ∷
    (codes "dollar-sign", 36) ∷ (codes "percent-sign", 37) ∷ (codes "ampersand", 38) ∷ (codes "apostrophe", 39) ∷
    (codes "left-parenthesis", 40) ∷ (codes "right-parenthesis", 41) ∷ (codes "asterisk", 42) ∷ (codes "plus-sign", 43) ∷
    (codes "comma", 44) ∷ (codes "hyphen", 45) ∷ (codes "hyphen-minus", 45) ∷ (codes "period", 46) ∷
    (codes "full-stop", 46) ∷ (codes "slash", 47) ∷ (codes "solidus", 47) ∷ (codes "zero", 48) ∷
    (codes "one", 49) ∷ (codes "two", 50) ∷ (codes "three", 51) ∷ (codes "four", 52) ∷
    (codes "five", 53) ∷ (codes "six", 54) ∷ (codes "seven", 55) ∷ (codes "eight", 56) ∷
    (codes "nine", 57) ∷ (codes "colon", 58) ∷ (codes "semicolon", 59) ∷ (codes "less-than-sign", 60) ∷
    (codes "equals-sign", 61) ∷ (codes "greater-than-sign", 62) ∷ (codes "question-mark", 63) ∷ (codes "commercial-at", 64) ∷
    (codes "left-square-bracket", 91) ∷ (codes "backslash", 92) ∷ (codes "reverse-solidus", 92) ∷ (codes "right-square-bracket", 93) ∷
    (codes "circumflex", 94) ∷ (codes "circumflex-accent", 94) ∷ (codes "underscore", 95) ∷ (codes "low-line", 95) ∷
    (codes "grave-accent", 96) ∷ (codes "left-brace", 123) ∷ (codes "left-curly-bracket", 123) ∷ (codes "vertical-line", 124) ∷
    (codes "right-brace", 125) ∷ (codes "right-curly-bracket", 125) ∷ (codes "tilde", 126) ∷ []

-- the code of the portable character with a name
unfoldable pub portable_code : Name → Option ℕ
portable_code name = option_or (letter_code name) (first_named portable_names name)

-- whether a code is that of a portable character
abbrev pub is_portable : ℕ → Bool
is_portable c = c == 0 || is_in_range 7 13 c || is_in_range 32 126 c
