-- The text of a time by a format (XSH strftime).
use Rattle.std.specs.Prelude.{ℕ, zero, suc, ℤ, pos, negsuc, ◌+◌, ◌-◌, ◌/◌, ◌%◌, nat_lt, List, [], ◌∷◌, ◌++◌, count_by, slice_get, decimal, Option, Some, None, Result, Ok, Err, if◌then◌else◌}
use Rattle.std.specs.List.{flat_map}
use Rattle.std.specs.Fmt.{signed_decimal}
use Rattle.time_cat.specs.declared.conversion.NameList.{NameList}
use Rattle.time_cat.specs.declared.conversion.NameList.TheVariants.{ShortWeekday, Weekday, ShortMonth, Month, HalfDay}
use Rattle.time_cat.specs.declared.conversion.Quantity.{Quantity}
use Rattle.time_cat.specs.declared.conversion.Quantity.TheVariants as quantities
use Rattle.time_cat.specs.declared.conversion.Layout.{Layout}
use Rattle.time_cat.specs.declared.conversion.Layout.TheVariants.{Bare, Two, Three, Spaced}
use Rattle.time_cat.specs.declared.conversion.Shows.{Shows}
use Rattle.time_cat.specs.declared.conversion.Shows.TheVariants.{Name, Number, Alternative, Format, EraFormat, EraName, EraYear, EraFull, SlashedDate, DashedDate, ShortTime, FullTime, Offset, Zone, Sign}
use Rattle.time_cat.specs.declared.conversion.TimeConversion.{TimeConversion}
use Rattle.time_cat.specs.Conversions.{conversion}
use Rattle.time_cat.specs.Formats.{Piece, Literal, Converted, Wrong, pieces, is_conversion, bad_place}
use Rattle.time_cat.specs.Eras.{Hit, era}
use Rattle.time_cat.specs.Times.{TmValues}
use Rattle.time_cat.specs.TimeValues.{TimeValues, format_text, text_at}
use Rattle.time_cat.specs.Weeks.{sunday_week, monday_week, iso_year, iso_week, behind_monday}

-- ---- numbers

-- a number of a time
abbrev pub quantity : Quantity → TmValues → ℕ
quantity quantities.Century t = t.year / 100
quantity quantities.YearOfCentury t = t.year % 100
quantity quantities.Year t = t.year
quantity quantities.WeekYear t = iso_year t.year t.yday t.wday
quantity quantities.WeekYearOfCentury t = iso_year t.year t.yday t.wday % 100
quantity quantities.Month t = t.mon
quantity quantities.Day t = t.mday
quantity quantities.YearDay t = t.yday + 1
quantity quantities.Hour t = t.hour
quantity quantities.HalfDayHour t = (t.hour + 11) % 12 + 1
quantity quantities.Minute t = t.min
quantity quantities.Second t = t.sec
quantity quantities.IsoWeekday t = behind_monday t.wday + 1
quantity quantities.Weekday t = t.wday
quantity quantities.SundayWeek t = sunday_week t.yday t.wday
quantity quantities.MondayWeek t = monday_week t.yday t.wday
quantity quantities.IsoWeek t = iso_week t.year t.yday t.wday

-- the last decimal digit of a number
abbrev pub last_digit : ℕ → ℕ
last_digit n = 48 + n % 10

-- the last two, three and four digits
abbrev pub two : ℕ → List ℕ
two n = last_digit (n / 10) ∷ last_digit n ∷ []

abbrev pub three : ℕ → List ℕ
three n = last_digit (n / 100) ∷ last_digit (n / 10) ∷ last_digit n ∷ []

abbrev pub four : ℕ → List ℕ
four n = last_digit (n / 1000) ∷ last_digit (n / 100) ∷ last_digit (n / 10) ∷ last_digit n ∷ []

-- two places, with a space before one digit
abbrev pub spaced : ℕ → List ℕ
spaced n = if nat_lt n 10 then 32 ∷ last_digit n ∷ [] else two n

-- a number as it is written
abbrev pub laid_out : Layout → ℕ → List ℕ
laid_out Bare n = decimal n
laid_out Two n = two n
laid_out Three n = three n
laid_out Spaced n = spaced n

-- the alternative digit at a number
abbrev pub alternative : List (List ℕ) → ℕ → Option (List ℕ)
alternative digits n = slice_get digits n

abbrev pub or_text : Option (List ℕ) → List ℕ → List ℕ
or_text None text = text
or_text (Some found) text = found

-- ---- names and fixed forms

-- a name of the locale
abbrev pub name_text : TimeValues → TmValues → NameList → List ℕ
name_text v t ShortWeekday = text_at v.names.abday t.wday
name_text v t Weekday = text_at v.names.day t.wday
name_text v t ShortMonth = text_at v.names.abmon (t.mon - 1)
name_text v t Month = text_at v.names.mon (t.mon - 1)
name_text v t HalfDay = text_at v.names.am_pm (if nat_lt t.hour 12 then 0 else 1)

-- month, day and year of the century
abbrev pub slashed_date : TmValues → List ℕ
slashed_date t = two t.mon ++ 47 ∷ two t.mday ++ 47 ∷ two t.year

-- year, month and day
abbrev pub dashed_date : TmValues → List ℕ
dashed_date t = four t.year ++ 45 ∷ two t.mon ++ 45 ∷ two t.mday

-- hour and minute, and the same with the second
abbrev pub short_time : TmValues → List ℕ
short_time t = two t.hour ++ 58 ∷ two t.min

abbrev pub full_time : TmValues → List ℕ
full_time t = two t.hour ++ 58 ∷ two t.min ++ 58 ∷ two t.sec

-- hours and minutes of an offset
abbrev pub hours_and_minutes : ℕ → List ℕ
hours_and_minutes n = two (n / 60) ++ two (n % 60)

-- an offset with its sign, or nothing
abbrev pub offset_text : Option ℤ → List ℕ
offset_text None = []
offset_text (Some (pos n)) = 43 ∷ hours_and_minutes n
offset_text (Some (negsuc n)) = 45 ∷ hours_and_minutes (n + 1)

-- ---- eras

-- the era of a time's date
abbrev pub era_of : TimeValues → TmValues → Option Hit
era_of v t = era v.era t.year t.mon t.mday

abbrev pub era_name : Option Hit → ℕ → List ℕ
era_name None year = two (year / 100)
era_name (Some h) year = h.name

abbrev pub era_year : Option Hit → ℕ → List ℕ
era_year None year = two year
era_year (Some h) year = signed_decimal h.year

abbrev pub era_format : Option Hit → Option (List ℕ)
era_format None = None
era_format (Some h) = Some h.format

-- ---- conversions

-- a format of eras, or else the plain one where it is empty
abbrev pub or_plain : List ℕ → List ℕ → List ℕ
or_plain [] plain = plain
or_plain (c ∷ cs) plain = c ∷ cs

-- the format for which a conversion stands, if it stands for one
abbrev pub format_for : TimeValues → TmValues → Shows → Option (List ℕ)
format_for v t (Name n) = None
format_for v t (Number q l) = None
format_for v t (Alternative q l) = None
format_for v t (Format key) = Some (format_text v key)
format_for v t (EraFormat key plain) = Some (or_plain (format_text v key) (format_text v plain))
format_for v t EraName = None
format_for v t EraYear = None
format_for v t EraFull = era_format (era_of v t)
format_for v t SlashedDate = None
format_for v t DashedDate = None
format_for v t ShortTime = None
format_for v t FullTime = None
format_for v t Offset = None
format_for v t Zone = None
format_for v t (Sign c) = None

-- what a conversion gives that stands for no format
abbrev pub plain_text : TimeValues → TmValues → Shows → List ℕ
plain_text v t (Name n) = name_text v t n
plain_text v t (Number q l) = laid_out l (quantity q t)
plain_text v t (Alternative q l) = or_text (alternative v.alt_digits (quantity q t)) (laid_out l (quantity q t))
plain_text v t (Format key) = []
plain_text v t (EraFormat key plain) = []
plain_text v t EraName = era_name (era_of v t) t.year
plain_text v t EraYear = era_year (era_of v t) t.year
plain_text v t EraFull = decimal t.year
plain_text v t SlashedDate = slashed_date t
plain_text v t DashedDate = dashed_date t
plain_text v t ShortTime = short_time t
plain_text v t FullTime = full_time t
plain_text v t Offset = offset_text t.offset
plain_text v t Zone = t.zone
plain_text v t (Sign c) = c ∷ []

abbrev pub formatted : (List ℕ → List ℕ) → List ℕ → Option (List ℕ) → List ℕ
formatted expand plain None = plain
formatted expand plain (Some format) = expand format

-- what a conversion gives, where a format gives what expand says
abbrev pub converted : TimeValues → TmValues → (List ℕ → List ℕ) → Option TimeConversion → List ℕ
converted v t expand None = []
converted v t expand (Some c) = formatted expand (plain_text v t c.shows) (format_for v t c.shows)

-- what a piece of a format gives
abbrev pub piece_text : TimeValues → TmValues → (List ℕ → List ℕ) → Piece → List ℕ
piece_text v t expand (Literal c) = c ∷ []
piece_text v t expand (Converted modifier letter rank) = converted v t expand (conversion modifier letter)
piece_text v t expand (Wrong at) = []

-- what a format gives, with so many formats within one another: a format of the locale holds only conversions of lower rank,
-- so there are at most five
unfoldable pub expanded : ℕ → TimeValues → TmValues → List ℕ → List ℕ
expanded zero v t format = []
expanded (suc levels) v t format = flat_map (piece_text v t (expanded levels v t)) (pieces format)

-- how many conversions a format has
abbrev pub conversions_of : List ℕ → ℕ
conversions_of format = count_by is_conversion (pieces format)

abbrev pub unless_bad : Option ℕ → List ℕ → Result (List ℕ) ℕ
unless_bad None text = Ok text
unless_bad (Some at) text = Err at

-- the text of a time by a format, or where a `%` stands that begins no conversion
abbrev pub time_text : TimeValues → TmValues → List ℕ → Result (List ℕ) ℕ
time_text v t format = unless_bad (bad_place (pieces format)) (expanded 5 v t format)
