-- The printed lines (our own).
use Rattle.std.specs.Prelude.{ℕ, ℤ, Bool, ◌+◌, ◌/◌, ◌%◌, ◌==◌, nat_lt, ◌||◌, List, [], ◌∷◌, ◌++◌, slice_index_or, codes, Option, Some, None, if◌then◌else◌}
use Rattle.std.specs.List.{flat_map}
use Rattle.std.specs.Fmt.{decimal, signed_decimal}
use Rattle.lc_base.specs.Categories.{category_name}
use Rattle.script_out.specs.declared.output.Places.{Places}
use Rattle.script_out.specs.declared.output.Places.TheVariants as places
use Rattle.script_out.specs.declared.output.Said.{Said}
use Rattle.script_out.specs.declared.output.Said.TheVariants as said
use Rattle.script_out.specs.declared.output.Why.{Why}
use Rattle.script_out.specs.declared.output.Why.TheVariants as whys
use Rattle.handle_table.specs.declared.op.Refusal.{Refusal}
use Rattle.handle_table.specs.declared.op.Refusal.TheVariants as refusals
use Rattle.lc_base.specs.declared.handle.Handle.{Handle}
use Rattle.lc_base.specs.declared.handle.Named.{Named}
use Rattle.lc_base.specs.declared.handle.Named.TheVariants.{Global, Of}
use Rattle.script_out.specs.declared.output.OutLine.{OutLine}
use Rattle.time_cat.specs.declared.parsed.Parsed.{Parsed}
use Rattle.time_cat.specs.declared.tm.TmField.{TmField}
use Rattle.time_cat.specs.declared.tm.TmField.TheVariants as fields

-- one space
abbrev pub space : List ℕ
space = 32 ∷ []

-- one newline
abbrev pub newline : List ℕ
newline = 10 ∷ []

-- a hexadecimal digit, with the lower-case letters
abbrev pub hex_digit : ℕ → ℕ
hex_digit n = if nat_lt n 10 then 48 + n else 87 + n

-- a byte of a quoted text: `\"`, `\\`, `\xHH` for a control byte, and any other byte as it is
abbrev pub escaped : ℕ → List ℕ
escaped c =
    if (c == 34) || (c == 92) then 92 ∷ c ∷ [] else
    if nat_lt c 32 || (c == 127) then 92 ∷ 120 ∷ hex_digit (c / 16) ∷ hex_digit (c % 16) ∷ [] else
    c ∷ []

-- a text in quotes
abbrev pub quoted : List ℕ → List ℕ
quoted text = 34 ∷ [] ++ flat_map escaped text ++ 34 ∷ []

-- the places of a line's entries in the history, or `c` and the place in the history of the catalogs
abbrev pub places_text : Places → List ℕ
places_text places.None = codes "-"
places_text (places.One p) = decimal p
places_text (places.Two p q) = decimal p ++ codes "," ++ decimal q
places_text (places.Catalog p) = codes "c" ++ decimal p

-- the version of the global locale that a line prints
abbrev pub version_text : Option ℕ → List ℕ
version_text None = codes "-"
version_text (Some v) = codes "g" ++ decimal v

-- THREAD.ROW.GENERATION, where the threads have these names
abbrev pub handle_text : List (List ℕ) → Handle → List ℕ
handle_text names h = slice_index_or names h.owner [] ++ codes "." ++ decimal h.row ++ codes "." ++ decimal h.generation

-- what a command named: GLOBAL or a handle
abbrev pub named_text : List (List ℕ) → Named → List ℕ
named_text names Global = codes "GLOBAL"
named_text names (Of h) = handle_text names h

-- why the table refuses a call
abbrev pub refusal_text : Refusal → List ℕ
refusal_text (refusals.NoData category) = codes "NoData " ++ category_name category
refusal_text refusals.GlobalHandle = codes "GlobalHandle"
refusal_text refusals.NeverMade = codes "NeverMade"
refusal_text refusals.Stale = codes "Stale"
refusal_text refusals.TooMany = codes "TooMany"
refusal_text refusals.AlreadyHeld = codes "AlreadyHeld"
refusal_text refusals.NotHeld = codes "NotHeld"
refusal_text refusals.EmptyCell = codes "EmptyCell"

-- a field of a time (XBD time.h, struct tm)
abbrev pub field_text : TmField → List ℕ
field_text fields.Year = codes "year"
field_text fields.Mon = codes "mon"
field_text fields.Mday = codes "mday"
field_text fields.Hour = codes "hour"
field_text fields.Min = codes "min"
field_text fields.Sec = codes "sec"
field_text fields.Wday = codes "wday"
field_text fields.Yday = codes "yday"
field_text fields.Offset = codes "offset"

-- why a command is refused
abbrev pub why_text : Why → List ℕ
why_text whys.Unset = codes "Unset"
why_text whys.BadMask = codes "BadMask"
why_text (whys.Table refusal) = refusal_text refusal
why_text whys.NoClass = codes "NoClass"
why_text (whys.TmRange field) = codes "TmRange " ++ field_text field
why_text (whys.BadFormat at) = codes "BadFormat " ++ decimal at
why_text (whys.MissingAmount at) = codes "MissingAmount " ++ decimal at
why_text (whys.MissingNumber at) = codes "MissingNumber " ++ decimal at
why_text (whys.Mismatch at) = codes "Mismatch " ++ decimal at
why_text whys.TooBig = codes "TooBig"
why_text whys.NoCatalog = codes "NoCatalog"

-- a year, and `-` where there is none
abbrev pub year_text : Option ℤ → List ℕ
year_text None = codes "-"
year_text (Some year) = signed_decimal year

-- a number, and `-` where there is none
abbrev pub known_text : Option ℕ → List ℕ
known_text None = codes "-"
known_text (Some n) = decimal n

-- fields, each behind a space
abbrev pub fields_text : List (Option ℕ) → List ℕ
fields_text fields = flat_map (λ field. space ++ known_text field) fields

-- the fields behind the year, in the order in which they are printed
abbrev pub fields_behind_year : Parsed → List (Option ℕ)
fields_behind_year p = p.mon ∷ p.mday ∷ p.hour ∷ p.min ∷ p.sec ∷ p.wday ∷ p.yday ∷ []

-- the fields of a time that was read, and the index of the first byte that was not read
abbrev pub parsed_text : Parsed → ℕ → List ℕ
parsed_text p rest = codes "parsed " ++ year_text p.year ++ fields_text (fields_behind_year p) ++ space ++ decimal rest

-- texts in quotes, each behind a space
abbrev pub texts_text : List (List ℕ) → List ℕ
texts_text texts = flat_map (λ text. space ++ quoted text) texts

-- numbers, each behind a space
abbrev pub numbers_text : List ℕ → List ℕ
numbers_text numbers = flat_map (λ n. space ++ decimal n) numbers

-- whether a value is of a class
abbrev pub class_text : Bool → List ℕ
class_text is = if is then codes "yes" else codes "no"

-- a reply, where the threads have these names
abbrev pub reply_text : List (List ℕ) → Said → List ℕ
reply_text names (said.Handle h) = codes "handle " ++ handle_text names h
reply_text names said.Freed = codes "freed"
reply_text names (said.Was former) = codes "was " ++ named_text names former
reply_text names (said.Is selected) = codes "is " ++ named_text names selected
reply_text names said.Held = codes "held"
reply_text names said.Released = codes "released"
reply_text names (said.Name name) = codes "name " ++ name
reply_text names (said.Installed count) = codes "installed " ++ decimal count
reply_text names said.Posted = codes "posted"
reply_text names (said.Pins count) = codes "pins " ++ decimal count
reply_text names (said.Text text) = codes "text " ++ quoted text
reply_text names (said.Parsed fields rest) = parsed_text fields rest
reply_text names (said.Conv texts numbers) = codes "conv" ++ texts_text texts ++ numbers_text numbers
reply_text names (said.Class is) = class_text is
reply_text names (said.Value value) = codes "value " ++ decimal value
reply_text names (said.Opened h) = codes "opened " ++ handle_text names h
reply_text names said.Closed = codes "closed"
reply_text names said.Ended = codes "ended"
reply_text names (said.Refused why) = codes "refused " ++ why_text why

-- the front of a reply: the whole of a short one, or what stands before the handle, the name, the text or the reason
abbrev pub reply_front : Said → List ℕ
reply_front (said.Handle h) = codes "handle "
reply_front said.Freed = codes "freed"
reply_front (said.Was former) = codes "was "
reply_front (said.Is selected) = codes "is "
reply_front said.Held = codes "held"
reply_front said.Released = codes "released"
reply_front (said.Name name) = codes "name "
reply_front (said.Installed count) = codes "installed " ++ decimal count
reply_front said.Posted = codes "posted"
reply_front (said.Pins count) = codes "pins " ++ decimal count
reply_front (said.Text text) = codes "text "
reply_front (said.Parsed fields rest) = []
reply_front (said.Conv texts numbers) = []
reply_front (said.Class is) = class_text is
reply_front (said.Value value) = codes "value " ++ decimal value
reply_front (said.Opened h) = codes "opened "
reply_front said.Closed = codes "closed"
reply_front said.Ended = codes "ended"
reply_front (said.Refused why) = codes "refused "

-- what stands behind the front of a reply, where the threads have these names
abbrev pub reply_rest : List (List ℕ) → Said → List ℕ
reply_rest names (said.Handle h) = handle_text names h
reply_rest names said.Freed = []
reply_rest names (said.Was former) = named_text names former
reply_rest names (said.Is selected) = named_text names selected
reply_rest names said.Held = []
reply_rest names said.Released = []
reply_rest names (said.Name name) = name
reply_rest names (said.Installed count) = []
reply_rest names said.Posted = []
reply_rest names (said.Pins count) = []
reply_rest names (said.Text text) = quoted text
reply_rest names (said.Parsed fields rest) = parsed_text fields rest
reply_rest names (said.Conv texts numbers) = codes "conv" ++ texts_text texts ++ numbers_text numbers
reply_rest names (said.Class is) = []
reply_rest names (said.Value value) = []
reply_rest names (said.Opened h) = handle_text names h
reply_rest names said.Closed = []
reply_rest names said.Ended = []
reply_rest names (said.Refused why) = why_text why

-- ROUND THREAD INDEX, each with a space after it
abbrev pub caller_text : List ℕ → OutLine → List ℕ
caller_text name l = decimal l.round ++ space ++ name ++ space ++ decimal l.index ++ space

-- INDEX PLACES GLOBAL, each with a space before it, and after a space the front of the reply
abbrev pub entry_text : OutLine → List ℕ
entry_text l = space ++ decimal l.index ++ space ++ places_text l.places ++ space ++ version_text l.global ++ space ++ reply_front l.reply

-- PLACES GLOBAL REPLY and a newline
abbrev pub outcome_text : List (List ℕ) → OutLine → List ℕ
outcome_text names l = places_text l.places ++ space ++ version_text l.global ++ space ++ reply_text names l.reply ++ newline

-- a line, where the threads have these names
abbrev pub line_text : List (List ℕ) → OutLine → List ℕ
line_text names l = caller_text (slice_index_or names l.thread []) l ++ outcome_text names l

-- the printed text of lines
abbrev pub printed : List OutLine → List (List ℕ) → List ℕ
printed lines names = flat_map (line_text names) lines
