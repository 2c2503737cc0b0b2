-- What is kept of the category.
use Rattle.std.specs.Prelude.{◌≡◌}
use Rattle.keywords.specs.LconvChars.{groups}
use Rattle.monetary_cat.specs.declared.Monetary.TheInside.{Inside}
use Rattle.monetary_cat.specs.Currency.{currency}

-- the symbol behind its sign and the sizes of groups as chars are those of the values
pub record IsKept (m : Inside) : Type 0 where
  pub currency_item : m.currency_item ≡ currency m.local.plus.cs_precedes m.texts.currency_symbol
  pub group_chars : m.group_chars ≡ groups m.mon_grouping
