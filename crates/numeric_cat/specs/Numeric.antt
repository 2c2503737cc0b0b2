-- The values of LC_NUMERIC's keywords (XBD 7.3.4).
use Rattle.std.specs.Prelude.{List, [], codes, Ok}
use Rattle.lc_base.specs.declared.category.Category.TheVariants as categories
use Rattle.lc_base.specs.Reading.{Reads, ◌>>=◌}
use Rattle.keywords.specs.declared.source.Entry.{Entry}
use Rattle.keywords.specs.Keywords.{text_value, numbers_value}
use Rattle.keywords.specs.Rules.{checked}
use Rattle.numeric_cat.specs.NumericValues.{NumericValues}

-- the values, where each keyword that is absent has its POSIX value
abbrev pub values_of : List Entry → NumericValues
values_of list = record {
  decimal_point = text_value categories.Numeric list (codes "decimal_point");
  thousands_sep = text_value categories.Numeric list (codes "thousands_sep");
  grouping = numbers_value categories.Numeric list (codes "grouping");
}

-- the values of the POSIX locale
abbrev pub posix_values : NumericValues
posix_values = values_of []

-- the values that a keyword list defines, or its first broken rule
abbrev pub numeric_values : List Entry → Reads NumericValues
numeric_values list = checked categories.Numeric list >>= λ _. Ok (values_of list)
