-- What the conversions of a format read (XSH strptime; which of them are read, without E and O, is our own).
use Rattle.std.specs.Prelude.{ℕ, ◌==◌, ◌||◌, Bool, List, [], ◌∷◌, codes, find, Option, Some, None, option_map, if◌then◌else◌}
use Rattle.std.specs.Int.{is_in_range}
use Rattle.time_cat.specs.declared.conversion.TimeText.TheVariants as texts
use Rattle.time_cat.specs.TimeValues.{TimeValues, format_text}
use Rattle.time_cat.specs.Formats.{Piece, Literal, Converted, Wrong}
use Rattle.strptime_fields.specs.declared.item.Kind.TheVariants as kinds
use Rattle.strptime_fields.specs.declared.item.Digits.{Digits}
use Rattle.strptime_fields.specs.declared.item.Digits.TheVariants.{One, Two, Three, Four}
use Rattle.strptime_fields.specs.declared.item.Names.TheVariants as names
use Rattle.strptime_fields.specs.declared.item.Form.{Form}
use Rattle.strptime_fields.specs.declared.item.Form.TheVariants.{SlashedDate, ShortTime, FullTime, Locale}
use Rattle.strptime_fields.specs.declared.item.Item.{Item}
use Rattle.strptime_fields.specs.declared.item.Item.TheVariants.{White, Sign, Number, YearDay, Year, Name, Format}

-- a conversion: its letter and what it reads
abbrev pub ScannedRow : Type 0
ScannedRow = ℕ × Item

-- the conversions, with the most digits of each number and its bounds
abbrev pub items : List ScannedRow
items =
    (97, Name names.Weekdays) ∷  -- %a
    (65, Name names.Weekdays) ∷  -- %A
    (98, Name names.Months) ∷  -- %b
    (66, Name names.Months) ∷  -- %B
    (99, Format (Locale texts.DateTime)) ∷  -- %c
    (67, Number kinds.Century Two 0 99) ∷  -- %C
    (100, Number kinds.Day Two 1 31) ∷  -- %d
    (68, Format SlashedDate) ∷  -- %D
    (101, Number kinds.Day Two 1 31) ∷  -- %e
    (104, Name names.Months) ∷  -- %h
    (72, Number kinds.Hour Two 0 23) ∷  -- %H
    (73, Number kinds.HalfDayHour Two 1 12) ∷  -- %I
    (106, YearDay Three 1 366) ∷  -- %j
    (109, Number kinds.Month Two 1 12) ∷  -- %m
    (77, Number kinds.Minute Two 0 59) ∷  -- %M
    (110, White) ∷  -- %n
    (112, Name names.HalfDays) ∷  -- %p
    (114, Format (Locale texts.HalfDayClock)) ∷  -- %r
    (82, Format ShortTime) ∷  -- %R
    (83, Number kinds.Second Two 0 60) ∷  -- %S
    (116, White) ∷  -- %t
    (84, Format FullTime) ∷  -- %T
    (85, Number kinds.Week Two 0 53) ∷  -- %U
    (119, Number kinds.Weekday One 0 6) ∷  -- %w
    (87, Number kinds.Week Two 0 53) ∷  -- %W
    (120, Format (Locale texts.Date)) ∷  -- %x
    (88, Format (Locale texts.Clock)) ∷  -- %X
    (121, Number kinds.YearOfCentury Two 0 99) ∷  -- %y
    (89, Year Four 0 9999) ∷  -- %Y
    (37, Sign 37) ∷ []  -- %%

-- the first row of a letter
abbrev pub first_row : List ScannedRow → ℕ → Option ScannedRow
first_row rows letter = find (λ (r : ScannedRow). r.0 == letter) rows

-- the item of a letter behind a modifier, of which none is read
unfoldable pub item : ℕ → ℕ → Option Item
item modifier letter = if modifier == 0 then option_map (λ (r : ScannedRow). r.1) (first_row items letter) else None

-- white space: the byte 32, and those from 9 to 13
abbrev pub is_white : ℕ → Bool
is_white c = (c == 32) || is_in_range 9 13 c

-- the item of a byte that stands for itself
abbrev pub byte_item : ℕ → Item
byte_item c = if is_white c then White else Sign c

-- the item of a piece of a format, if it has one
abbrev pub item_of : Piece → Option Item
item_of (Literal c) = Some (byte_item c)
item_of (Converted modifier letter rank) = item modifier letter
item_of (Wrong at) = None

-- how many digits a number has at most
abbrev pub most_digits : Digits → ℕ
most_digits One = 1
most_digits Two = 2
most_digits Three = 3
most_digits Four = 4

-- the format whose items stand in the place of an item
abbrev pub form_text : TimeValues → Form → List ℕ
form_text v SlashedDate = codes "%m/%d/%y"
form_text v ShortTime = codes "%H:%M"
form_text v FullTime = codes "%H:%M:%S"
form_text v (Locale key) = format_text v key

-- the format for which an item stands, if it stands for one
abbrev pub format_for : TimeValues → Item → Option (List ℕ)
format_for v White = None
format_for v (Sign c) = None
format_for v (Number kind digits low high) = None
format_for v (YearDay digits low high) = None
format_for v (Year digits low high) = None
format_for v (Name names) = None
format_for v (Format form) = Some (form_text v form)
