-- What is kept of the category.
use Rattle.std.specs.Prelude.{◌≡◌}
use Rattle.time_cat.specs.declared.time.Time.TheInside.{Inside}
use Rattle.time_cat.specs.TimeValues.{TimeValues, joined, IsWhole}

-- what the fields stand for
abbrev pub values : Inside → TimeValues
values t = record { names = t.names; formats = t.formats; era = t.era; era_list = t.era_list; alt_digits = t.alt_digits }

-- the rules are obeyed, and the joined digits are those of the list
pub record IsKept (t : Inside) : Type 0 where
  pub whole : IsWhole (values t)
  pub alt_list : t.alt_list ≡ joined t.alt_digits
