-- The values of LC_MESSAGES's keywords (XBD 7.3.6).
use Rattle.std.specs.Prelude.{List, [], codes, Ok}
use Rattle.lc_base.specs.declared.category.Category.TheVariants as categories
use Rattle.lc_base.specs.Reading.{Reads, ◌>>=◌}
use Rattle.keywords.specs.declared.source.Entry.{Entry}
use Rattle.keywords.specs.Keywords.{text_value}
use Rattle.keywords.specs.Rules.{checked}
use Rattle.messages_cat.specs.MessagesValues.{MessagesValues}

-- the values, where each keyword that is absent has its POSIX value
abbrev pub values_of : List Entry → MessagesValues
values_of list = record {
  yesexpr = text_value categories.Messages list (codes "yesexpr");
  noexpr = text_value categories.Messages list (codes "noexpr");
}

-- the values of the POSIX locale
abbrev pub posix_values : MessagesValues
posix_values = values_of []

-- the values that a keyword list defines, or its first broken rule; no row of the table has a rule
abbrev pub messages_values : List Entry → Reads MessagesValues
messages_values list = checked categories.Messages list >>= λ _. Ok (values_of list)
