-- Weeks of the year (XSH strftime; that year 0 counts as a leap year is our own).
use Rattle.std.specs.Prelude.{ℕ, ◌+◌, ◌-◌, ◌/◌, ◌%◌, ◌==◌, nat_lt, nat_le, Bool, ◌&&◌, ◌||◌, not, if◌then◌else◌}

-- whether a year is a leap year
abbrev pub is_leap : ℕ → Bool
is_leap year = (year % 4 == 0) && (not (year % 100 == 0) || (year % 400 == 0))

-- how many days a year has
abbrev pub days_of : ℕ → ℕ
days_of year = if is_leap year then 366 else 365

-- how many days a day of the week is behind Monday
abbrev pub behind_monday : ℕ → ℕ
behind_monday weekday = (weekday + 6) % 7

-- the week of the year, where weeks begin on Sunday; days before the first Sunday are in week 0
abbrev pub sunday_week : ℕ → ℕ → ℕ
sunday_week yday weekday = (yday + 7 - weekday) / 7

-- the week of the year, where weeks begin on Monday
abbrev pub monday_week : ℕ → ℕ → ℕ
monday_week yday weekday = (yday + 7 - behind_monday weekday) / 7

-- a day of a year, counted from 0
pub record YearDay : Type 0 where
  pub year : ℕ
  pub day : ℕ

-- the Thursday of the week in which a day is, which may lie in the year before or in the year after
abbrev pub thursday : ℕ → ℕ → ℕ → YearDay
thursday year yday weekday =
    let back = behind_monday weekday in
    if nat_lt (yday + 3) back then record { year = year - 1; day = days_of (year - 1) + yday + 3 - back }
    else (if nat_le (days_of year) (yday + 3 - back) then record { year = year + 1; day = yday + 3 - back - days_of year }
    else record { year = year; day = yday + 3 - back })

-- the year of the ISO week in which a day is: that of its Thursday
abbrev pub iso_year : ℕ → ℕ → ℕ → ℕ
iso_year year yday weekday = (thursday year yday weekday).year

-- the ISO week: how many Thursdays its year has up to its own
abbrev pub iso_week : ℕ → ℕ → ℕ → ℕ
iso_week year yday weekday = (thursday year yday weekday).day / 7 + 1
