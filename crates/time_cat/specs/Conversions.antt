-- The conversions of a format (XSH strftime; the ranks are our own).
use Rattle.std.specs.Prelude.{ℕ, ◌==◌, ◌&&◌, List, [], ◌∷◌, ◌++◌, find, Option, option_map}
use Rattle.time_cat.specs.declared.conversion.NameList.TheVariants as name_lists
use Rattle.time_cat.specs.declared.conversion.Quantity.TheVariants as quantities
use Rattle.time_cat.specs.declared.conversion.Layout.TheVariants as layouts
use Rattle.time_cat.specs.declared.conversion.TimeText.TheVariants as formats
use Rattle.time_cat.specs.declared.conversion.Shows.{Shows}
use Rattle.time_cat.specs.declared.conversion.Shows.TheVariants.{Name, Number, Alternative, Format, EraFormat, EraName, EraYear, EraFull, SlashedDate, DashedDate, ShortTime, FullTime, Offset, Zone, Sign}
use Rattle.time_cat.specs.declared.conversion.TimeConversion.{TimeConversion}

-- a conversion: its modifier (the bytes of E and O are 69 and 79, and 0 is none), its letter, its rank and what it gives
abbrev pub ConversionRow : Type 0
ConversionRow = ℕ × ℕ × ℕ × Shows

-- the conversions without a modifier
abbrev pub plain_conversions : List ConversionRow
plain_conversions =
    (0, 97, 0, Name name_lists.ShortWeekday) ∷  -- %a
    (0, 65, 0, Name name_lists.Weekday) ∷  -- %A
    (0, 98, 0, Name name_lists.ShortMonth) ∷  -- %b
    (0, 66, 0, Name name_lists.Month) ∷  -- %B
    (0, 99, 4, Format formats.DateTime) ∷  -- %c
    (0, 67, 0, Number quantities.Century layouts.Two) ∷  -- %C
    (0, 100, 0, Number quantities.Day layouts.Two) ∷  -- %d
    (0, 68, 0, SlashedDate) ∷  -- %D
    (0, 101, 0, Number quantities.Day layouts.Spaced) ∷  -- %e
    (0, 70, 0, DashedDate) ∷  -- %F
    (0, 103, 0, Number quantities.WeekYearOfCentury layouts.Two) ∷  -- %g
    (0, 71, 0, Number quantities.WeekYear layouts.Bare) ∷  -- %G
    (0, 104, 0, Name name_lists.ShortMonth) ∷  -- %h
    (0, 72, 0, Number quantities.Hour layouts.Two) ∷  -- %H
    (0, 73, 0, Number quantities.HalfDayHour layouts.Two) ∷  -- %I
    (0, 106, 0, Number quantities.YearDay layouts.Three) ∷  -- %j
    (0, 109, 0, Number quantities.Month layouts.Two) ∷  -- %m
    (0, 77, 0, Number quantities.Minute layouts.Two) ∷  -- %M
    (0, 110, 0, Sign 10) ∷  -- %n
    (0, 112, 0, Name name_lists.HalfDay) ∷  -- %p
    (0, 114, 2, Format formats.HalfDayClock) ∷  -- %r
    (0, 82, 0, ShortTime) ∷  -- %R
    (0, 83, 0, Number quantities.Second layouts.Two) ∷  -- %S
    (0, 116, 0, Sign 9) ∷  -- %t
    (0, 84, 0, FullTime) ∷  -- %T
    (0, 117, 0, Number quantities.IsoWeekday layouts.Bare) ∷  -- %u
    (0, 85, 0, Number quantities.SundayWeek layouts.Two) ∷  -- %U
    (0, 86, 0, Number quantities.IsoWeek layouts.Two) ∷  -- %V
    (0, 119, 0, Number quantities.Weekday layouts.Bare) ∷  -- %w
    (0, 87, 0, Number quantities.MondayWeek layouts.Two) ∷  -- %W
    (0, 120, 3, Format formats.Date) ∷  -- %x
    (0, 88, 3, Format formats.Clock) ∷  -- %X
    (0, 121, 0, Number quantities.YearOfCentury layouts.Two) ∷  -- %y
    (0, 89, 0, Number quantities.Year layouts.Bare) ∷  -- %Y
    (0, 122, 0, Offset) ∷  -- %z
    (0, 90, 0, Zone) ∷  -- %Z
    (0, 37, 0, Sign 37) ∷ []  -- %%

-- those of eras
abbrev pub era_conversions : List ConversionRow
era_conversions =
    (69, 99, 4, EraFormat formats.EraDateTime formats.DateTime) ∷  -- %Ec
    (69, 67, 0, EraName) ∷  -- %EC
    (69, 120, 3, EraFormat formats.EraDate formats.Date) ∷  -- %Ex
    (69, 88, 3, EraFormat formats.EraClock formats.Clock) ∷  -- %EX
    (69, 121, 0, EraYear) ∷  -- %Ey
    (69, 89, 1, EraFull) ∷ []  -- %EY

-- those of alternative digits
abbrev pub digit_conversions : List ConversionRow
digit_conversions =
    (79, 100, 0, Alternative quantities.Day layouts.Two) ∷  -- %Od
    (79, 101, 0, Alternative quantities.Day layouts.Spaced) ∷  -- %Oe
    (79, 72, 0, Alternative quantities.Hour layouts.Two) ∷  -- %OH
    (79, 73, 0, Alternative quantities.HalfDayHour layouts.Two) ∷  -- %OI
    (79, 109, 0, Alternative quantities.Month layouts.Two) ∷  -- %Om
    (79, 77, 0, Alternative quantities.Minute layouts.Two) ∷  -- %OM
    (79, 83, 0, Alternative quantities.Second layouts.Two) ∷  -- %OS
    (79, 117, 0, Alternative quantities.IsoWeekday layouts.Bare) ∷  -- %Ou
    (79, 85, 0, Alternative quantities.SundayWeek layouts.Two) ∷  -- %OU
    (79, 86, 0, Alternative quantities.IsoWeek layouts.Two) ∷  -- %OV
    (79, 119, 0, Alternative quantities.Weekday layouts.Bare) ∷  -- %Ow
    (79, 87, 0, Alternative quantities.MondayWeek layouts.Two) ∷  -- %OW
    (79, 121, 0, Alternative quantities.YearOfCentury layouts.Two) ∷ []  -- %Oy

abbrev pub conversions : List ConversionRow
conversions = plain_conversions ++ era_conversions ++ digit_conversions

-- the first row of a modifier and a letter
abbrev pub first_row : List ConversionRow → ℕ → ℕ → Option ConversionRow
first_row rows modifier letter = find (λ (r : ConversionRow). r.0 == modifier && r.1 == letter) rows

-- the rank of a row, and what it gives
abbrev pub conversion_in : ConversionRow → TimeConversion
conversion_in r = record { rank = r.2; shows = r.3 }

-- the conversion of a letter behind a modifier
unfoldable pub conversion : ℕ → ℕ → Option TimeConversion
conversion modifier letter = option_map conversion_in (first_row conversions modifier letter)
