-- Plain formats, whose texts are read back (our own).
use Rattle.std.specs.Prelude.{◌≡◌, ℕ, pos, ◌==◌, Bool, true, false, not, ◌&&◌, ◌||◌, List, [], ◌∷◌, length, Option, Some, None, Ok, if◌then◌else◌}
use Rattle.std.specs.Char.{is_ascii_digit}
use Rattle.std.specs.List.{list_any}
use Rattle.time_cat.specs.Formats.{Piece, Literal, Converted, Wrong, pieces}
use Rattle.time_cat.specs.Times.{TmValues, IsTime}
use Rattle.time_cat.specs.TimeValues.{TimeValues}
use Rattle.time_cat.specs.Shown.{time_text}
use Rattle.time_cat.specs.declared.parsed.Parsed.{Parsed}
use Rattle.strptime_fields.specs.Scans.{scan}

-- the numbers of a plain format: d, e, H, j, m, M, S, w and Y
abbrev pub plain_letters : List ℕ
plain_letters = 100 ∷ 101 ∷ 72 ∷ 106 ∷ 109 ∷ 77 ∷ 83 ∷ 119 ∷ 89 ∷ []

abbrev pub is_plain_letter : ℕ → Bool
is_plain_letter letter = list_any (λ c. c == letter) plain_letters

-- whether pieces are plain, behind a number or not: only numbers and `%%`, and behind a number the end, or a byte that is no digit
abbrev pub are_plain : Bool → List Piece → Bool
are_plain number [] = true
are_plain number (Literal c ∷ ps) = not (number && is_ascii_digit c) && are_plain false ps
are_plain number (Converted modifier letter rank ∷ ps) =
    (not number && (modifier == 0)) && (if letter == 37 then are_plain false ps else is_plain_letter letter && are_plain true ps)
are_plain number (Wrong at ∷ ps) = false

unfoldable pub is_plain : List ℕ → Bool
is_plain format = are_plain false (pieces format)

-- ---- the law

-- whether a conversion of this letter stands among pieces
abbrev pub is_letter : ℕ → Piece → Bool
is_letter letter (Literal c) = false
is_letter letter (Converted modifier c rank) = c == letter
is_letter letter (Wrong at) = false

abbrev pub holds : ℕ → List Piece → Bool
holds letter ps = list_any (is_letter letter) ps

abbrev pub said_if : {A : Type 0} → Bool → A → Option A
said_if true x = Some x
said_if false x = None

-- the fields of a time that the numbers of a plain format say
abbrev pub said : TmValues → List Piece → Parsed
said t ps = record {
  year = said_if (holds 89 ps) (pos t.year);
  mon = said_if (holds 109 ps) t.mon;
  mday = said_if (holds 100 ps || holds 101 ps) t.mday;
  hour = said_if (holds 72 ps) t.hour;
  min = said_if (holds 77 ps) t.min;
  sec = said_if (holds 83 ps) t.sec;
  wday = said_if (holds 119 ps) t.wday;
  yday = said_if (holds 106 ps) t.yday;
}

-- a time has a text by a format, and the text is read to its end, and says again the fields that the format says
abbrev pub IsReadBack : TimeValues → TmValues → List ℕ → Type 0
IsReadBack v t format = (text : List ℕ) × (time_text v t format ≡ Ok text) × (scan v format text ≡ Ok (said t (pieces format), length text))

-- by each plain format each time is read back
abbrev pub AreReadBack : Type 0
AreReadBack = (v : TimeValues) (t : TmValues) (format : List ℕ) → IsTime t → is_plain format ≡ true → IsReadBack v t format
