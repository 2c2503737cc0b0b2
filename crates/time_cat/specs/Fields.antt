-- What the fields of a time stand for.
use Rattle.time_cat.specs.declared.tm.Tm.TheInside.{Inside}
use Rattle.time_cat.specs.Times.{TmValues}

abbrev pub tm_values : Inside → TmValues
tm_values t = record {
  year = t.year;
  mon = t.mon;
  mday = t.mday;
  hour = t.hour;
  min = t.min;
  sec = t.sec;
  wday = t.wday;
  yday = t.yday;
  offset = t.offset;
  zone = t.zone;
}
