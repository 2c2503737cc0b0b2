-- What the formulas of the weeks say of a calendar (our own law above them).
use Rattle.std.specs.Prelude.{◌≡◌, ◌≢◌, ℕ, ◌+◌, ◌-◌, ◌<◌, ◌==◌, nat_lt, if◌then◌else◌}
use Rattle.time_cat.specs.Weeks.{YearDay, days_of, thursday}

-- the day after a day, and the day of the week after a day of the week
abbrev pub next_day : ℕ → ℕ → YearDay
next_day year day = if day + 1 == days_of year then record { year = year + 1; day = 0 } else record { year = year; day = day + 1 }

abbrev pub next_weekday : ℕ → ℕ
next_weekday weekday = if weekday == 6 then 0 else weekday + 1

-- the day seven days behind a day
abbrev pub week_later : YearDay → YearDay
week_later d = if nat_lt (d.day + 7) (days_of d.year) then record { year = d.year; day = d.day + 7 } else record { year = d.year + 1; day = d.day + 7 - days_of d.year }

-- the Thursday of a week is a day of its year, from Monday to Sunday it stays the same, and behind a Sunday it is a week later
pub record AreWeeks (year day weekday : ℕ) : Type 0 where
  pub own : (thursday year day weekday).day < days_of (thursday year day weekday).year
  pub same : weekday ≢ 0 → thursday (next_day year day).year (next_day year day).day (next_weekday weekday) ≡ thursday year day weekday
  pub later : weekday ≡ 0 → thursday (next_day year day).year (next_day year day).day (next_weekday weekday) ≡ week_later (thursday year day weekday)
