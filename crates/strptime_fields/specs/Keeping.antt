-- What the items that were read say together (XSH strptime; which value goes before which is our own).
use Rattle.std.specs.Prelude.{ℕ, ℤ, pos, ◌+◌, ◌-◌, ◌*◌, ◌%◌, ◌==◌, nat_lt, Bool, false, Option, Some, None, option_map, if◌then◌else◌}
use Rattle.strptime_fields.specs.declared.item.Kind.{Kind}
use Rattle.strptime_fields.specs.declared.item.Kind.TheVariants.{Day, Month, Weekday, Hour, HalfDayHour, Minute, Second, Century, YearOfCentury, HalfDay, Week}
use Rattle.strptime_fields.specs.declared.last_read.LastRead.{LastRead}
use Rattle.time_cat.specs.declared.parsed.Parsed.{Parsed}

-- nothing was read yet
abbrev pub nothing : LastRead
nothing = record {
  year = None;
  century = None;
  year_of_century = None;
  mon = None;
  mday = None;
  hour = None;
  half_day_hour = None;
  half_day = None;
  min = None;
  sec = None;
  wday = None;
  year_day = None;
}

-- a value of a kind in the place of an earlier one; a week is not kept
abbrev pub keep : Kind → ℕ → LastRead → LastRead
keep Day n k = record k { mday = Some n }
keep Month n k = record k { mon = Some n }
keep Weekday n k = record k { wday = Some n }
keep Hour n k = record k { hour = Some n }
keep HalfDayHour n k = record k { half_day_hour = Some n }
keep Minute n k = record k { min = Some n }
keep Second n k = record k { sec = Some n }
keep Century n k = record k { century = Some n }
keep YearOfCentury n k = record k { year_of_century = Some n }
keep HalfDay n k = record k { half_day = Some n }
keep Week n k = k

abbrev pub keep_year_day : ℕ → LastRead → LastRead
keep_year_day n k = record k { year_day = Some n }

abbrev pub keep_year : ℕ → LastRead → LastRead
keep_year n k = record k { year = Some n }

abbrev pub or_zero : Option ℕ → ℕ
or_zero None = 0
or_zero (Some n) = n

-- the year of a century that is not said: from 69 on in that of 1900, else in that of 2000
abbrev pub near_year : ℕ → ℕ
near_year n = if nat_lt n 69 then 2000 + n else 1900 + n

-- the year: as it was read, or else of a century with its year, or else of a near century
abbrev pub year_by : Option ℕ → Option ℕ → Option ℕ → Option ℕ
year_by (Some year) century year_of_century = Some year
year_by None (Some century) year_of_century = Some (100 * century + or_zero year_of_century)
year_by None None year_of_century = option_map near_year year_of_century

-- whether the second half of the day was read
abbrev pub is_afternoon : Option ℕ → Bool
is_afternoon None = false
is_afternoon (Some half) = half == 1

-- the hour: as it was read, or else that of a half day, of which the 12th is the first
abbrev pub hour_by : Option ℕ → Option ℕ → Option ℕ → Option ℕ
hour_by (Some hour) half_day_hour half_day = Some hour
hour_by None None half_day = None
hour_by None (Some hour) half_day = Some (if is_afternoon half_day then hour % 12 + 12 else hour % 12)

abbrev pub year_of : LastRead → Option ℤ
year_of k = option_map pos (year_by k.year k.century k.year_of_century)

abbrev pub hour_of : LastRead → Option ℕ
hour_of k = hour_by k.hour k.half_day_hour k.half_day

-- days of the year are read from 1 and counted from 0
abbrev pub yday_of : LastRead → Option ℕ
yday_of k = option_map (λ (day : ℕ). day - 1) k.year_day

-- the fields
abbrev pub parsed : LastRead → Parsed
parsed k = record {
  year = year_of k;
  mon = k.mon;
  mday = k.mday;
  hour = hour_of k;
  min = k.min;
  sec = k.sec;
  wday = k.wday;
  yday = yday_of k;
}
