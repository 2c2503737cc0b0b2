-- Era segments, and the year of an era that a date has (XBD 7.3.5.2, era).
use Rattle.std.specs.Prelude.{ℕ, ℤ, pos, ◌-ℤ◌, ◌+◌, ◌-◌, ◌==◌, nat_lt, nat_le, Bool, true, false, ◌&&◌, ◌||◌, List, [], ◌∷◌, codes, find, Option, Some, None, option_map, if◌then◌else◌}
use Rattle.std.specs.Int.{is_in_range}
use Rattle.std.specs.Str.{bytes_eq}
use Rattle.lc_base.specs.Lines.{◌>>=◌}
use Rattle.lc_base.specs.Cuts.{cut_at}
use Rattle.lc_base.specs.Numbers.{few_digits}
use Rattle.time_cat.specs.declared.segment.Date.{Date}
use Rattle.time_cat.specs.declared.segment.End.{End}
use Rattle.time_cat.specs.declared.segment.End.TheVariants.{BeforeAll, On, AfterAll}
use Rattle.time_cat.specs.declared.segment.Segment.{Segment}

-- a number in a range
abbrev pub within : ℕ → ℕ → Option ℕ → Option ℕ
within low high None = None
within low high (Some n) = if is_in_range low high n then Some n else None

-- years in a row, without a year 0: 10000 is the year before 1, which is written -1, and 10001 is the year 1. A year written 0
-- counts as -1
abbrev pub counted_year : ℕ → ℕ
counted_year year = 10000 + year

abbrev pub counted_year_before : ℕ → ℕ
counted_year_before year = 10000 - (year - 1)

-- the year that one to four digits are, perhaps behind a `-`
unfoldable pub year_of : List ℕ → Option ℕ
year_of [] = None
year_of (c ∷ cs) = if c == 45 then option_map counted_year_before (few_digits 4 cs) else option_map counted_year (few_digits 4 (c ∷ cs))

-- a date: year, month and day with `/` between
unfoldable pub date : List ℕ → Option Date
date text = do
  y ← cut_at 47 text
  m ← cut_at 47 y.1
  year ← year_of y.0
  month ← within 1 12 (few_digits 2 m.0)
  day ← within 1 31 (few_digits 2 m.1)
  Some (record { year = year; month = month; day = day })

-- the end of a segment: a date, or before or after all dates
unfoldable pub end_of : List ℕ → Option End
end_of text =
    if bytes_eq text (codes "-*") then Some BeforeAll
    else (if bytes_eq text (codes "+*") then Some AfterAll
    else option_map (λ (d : Date). On d) (date text))

-- the direction: whether years count up behind the start
abbrev pub direction : List ℕ → Option Bool
direction text = if bytes_eq text (codes "+") then Some true else (if bytes_eq text (codes "-") then Some false else None)

-- a segment: direction, offset, start, end, name and format, with `:` between
unfoldable pub segment : List ℕ → Option Segment
segment text = do
  d ← cut_at 58 text
  o ← cut_at 58 d.1
  s ← cut_at 58 o.1
  e ← cut_at 58 s.1
  n ← cut_at 58 e.1
  forward ← direction d.0
  offset ← few_digits 4 o.0
  start ← date s.0
  end ← end_of e.0
  Some (record { forward = forward; offset = offset; start = start; end = end; name = n.0; format = n.1 })

-- whether a date is no later than another: by year, then month, then day
abbrev pub date_is_no_later : Date → Date → Bool
date_is_no_later a b = nat_lt a.year b.year || ((a.year == b.year) && (nat_lt a.month b.month || ((a.month == b.month) && nat_le a.day b.day)))

-- whether an end is no later than another
abbrev pub is_no_later : End → End → Bool
is_no_later BeforeAll b = true
is_no_later (On a) BeforeAll = false
is_no_later (On a) (On b) = date_is_no_later a b
is_no_later (On a) AfterAll = true
is_no_later AfterAll BeforeAll = false
is_no_later AfterAll (On b) = false
is_no_later AfterAll AfterAll = true

-- whether a date is between two ends, both included
abbrev pub is_between : End → End → Date → Bool
is_between from to d = is_no_later from (On d) && is_no_later (On d) to

-- whether a segment contains a date: of its start and its end either may be the earlier one
abbrev pub contains : Date → Segment → Bool
contains d s = is_between (On s.start) s.end d || is_between s.end (On s.start) d

-- how far two years are apart
abbrev pub distance : ℕ → ℕ → ℕ
distance a b = if nat_lt a b then b - a else a - b

-- the era's year of a year: as far from the offset as the year is from the start, up or down
abbrev pub year_in : Segment → ℕ → ℤ
year_in s year = if s.forward then pos (s.offset + distance s.start.year year) else pos s.offset -ℤ pos (distance s.start.year year)

-- the era of a date: its year in the era, the era's name and format
pub record Hit : Type 0 where
  pub year : ℤ
  pub name : List ℕ
  pub format : List ℕ

abbrev pub hit_in : ℕ → Segment → Hit
hit_in year s = record { year = year_in s year; name = s.name; format = s.format }

-- the era of a date of this calendar: that of the first segment that contains it
abbrev pub era : List Segment → ℕ → ℕ → ℕ → Option Hit
era segments year month day = option_map (hit_in (counted_year year)) (find (contains (record { year = counted_year year; month = month; day = day })) segments)
