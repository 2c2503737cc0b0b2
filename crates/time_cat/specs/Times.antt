-- Broken-down times (XBD time.h, struct tm; the ranges of the year and of the offset are our own).
use Rattle.std.specs.Prelude.{ℕ, ℤ, pos, negsuc, ◌≤◌, nat_le, ◌&&◌, unsigned_abs, List, Option, Some, None, Result, Ok, Err, if◌then◌else◌}
use Rattle.std.specs.Result.{result_and}
use Rattle.time_cat.specs.declared.tm.TmField.{TmField}
use Rattle.time_cat.specs.declared.tm.TmField.TheVariants.{Year, Mon, Mday, Hour, Min, Sec, Wday, Yday, Offset}
use Rattle.time_cat.specs.declared.tm.TmRange.{TmRange}

-- a time: its year, month from 1, day, hour, minute, second, day of the week from Sunday, day of the year from 0, minutes
-- east of UTC where they are known, and the name of its zone
pub record TmValues : Type 0 where
  pub year : ℕ
  pub mon : ℕ
  pub mday : ℕ
  pub hour : ℕ
  pub min : ℕ
  pub sec : ℕ
  pub wday : ℕ
  pub yday : ℕ
  pub offset : Option ℤ
  pub zone : List ℕ

-- a field in its range, or that field
abbrev pub in_range : TmField → ℕ → ℕ → ℤ → Result ℕ TmRange
in_range field low high (pos n) = if nat_le low n && nat_le n high then Ok n else Err (record { field = field })
in_range field low high (negsuc n) = Err (record { field = field })

-- an offset of less than a day either way
abbrev pub offset_in_range : Option ℤ → Result (Option ℤ) TmRange
offset_in_range None = Ok None
offset_in_range (Some (pos n)) = if nat_le n 1439 then Ok (Some (pos n)) else Err (record { field = Offset })
offset_in_range (Some (negsuc n)) = if nat_le n 1438 then Ok (Some (negsuc n)) else Err (record { field = Offset })

-- the time with these fields, or the first field out of its range
unfoldable pub time_of : ℤ → ℤ → ℤ → ℤ → ℤ → ℤ → ℤ → ℤ → Option ℤ → List ℕ → Result TmValues TmRange
time_of year mon mday hour min sec wday yday offset zone =
    result_and (in_range Year 1 9999 year)
    (result_and (in_range Mon 1 12 mon)
    (result_and (in_range Mday 1 31 mday)
    (result_and (in_range Hour 0 23 hour)
    (result_and (in_range Min 0 59 min)
    (result_and (in_range Sec 0 60 sec)
    (result_and (in_range Wday 0 6 wday)
    (result_and (in_range Yday 0 365 yday)
    (result_and (offset_in_range offset)
    (Ok (record {
      year = unsigned_abs year;
      mon = unsigned_abs mon;
      mday = unsigned_abs mday;
      hour = unsigned_abs hour;
      min = unsigned_abs min;
      sec = unsigned_abs sec;
      wday = unsigned_abs wday;
      yday = unsigned_abs yday;
      offset = offset;
      zone = zone;
    }))))))))))

-- an offset of less than a day either way, if there is one
abbrev pub IsOffset : Option ℤ → Type 0
IsOffset None = Unit {0}
IsOffset (Some (pos n)) = n ≤ 1439
IsOffset (Some (negsuc n)) = n ≤ 1438

-- a time whose fields are in their ranges
pub record IsTime (t : TmValues) : Type 0 where
  pub year_from : 1 ≤ t.year
  pub year_to : t.year ≤ 9999
  pub mon_from : 1 ≤ t.mon
  pub mon_to : t.mon ≤ 12
  pub mday_from : 1 ≤ t.mday
  pub mday_to : t.mday ≤ 31
  pub hour : t.hour ≤ 23
  pub min : t.min ≤ 59
  pub sec : t.sec ≤ 60
  pub wday : t.wday ≤ 6
  pub yday : t.yday ≤ 365
  pub offset : IsOffset t.offset
