-- The categories that items read (XBD <langinfo.h>).
use Rattle.std.specs.Prelude.{◌≡◌, ℕ, List, [], ◌∷◌, ◌++◌, Option, Some, None}
use Rattle.lc_base.specs.declared.category.Category.{Category}
use Rattle.lc_base.specs.declared.category.Category.TheVariants.{Ctype, Numeric, Monetary, Time, Messages}
use Rattle.lc_base.specs.declared.item.Item.{Item}
use Rattle.lc_base.specs.Categories.{categories}
use Rattle.lc_base.specs.Tables.{first_named}
use Rattle.script_words.specs.Tables.{items_table}
use Rattle.ctype_classes.specs.CtypeValues.{CtypeValues}
use Rattle.numeric_cat.specs.NumericValues.{NumericValues}
use Rattle.monetary_cat.specs.Monetary.{MonetaryValues}
use Rattle.time_cat.specs.TimeValues.{TimeValues}
use Rattle.messages_cat.specs.MessagesValues.{MessagesValues}
use Rattle.langinfo.specs.declared.keyword.Keyword.{Keyword}
use Rattle.langinfo.specs.declared.keyword.Keyword.TheVariants as keywords
use Rattle.langinfo.specs.Items.{keyword_of, info}

-- the category of a keyword
abbrev pub keyword_category : Keyword → Category
keyword_category keywords.CodeSetName = Ctype
keyword_category (keywords.Format key) = Time
keyword_category (keywords.AmPm i) = Time
keyword_category (keywords.Day i) = Time
keyword_category (keywords.Abday i) = Time
keyword_category (keywords.Mon i) = Time
keyword_category (keywords.Abmon i) = Time
keyword_category keywords.Era = Time
keyword_category keywords.AltDigits = Time
keyword_category keywords.DecimalPoint = Numeric
keyword_category keywords.ThousandsSep = Numeric
keyword_category keywords.Yesexpr = Messages
keyword_category keywords.Noexpr = Messages
keyword_category keywords.CurrencySymbol = Monetary

-- the category that an item reads
abbrev pub category_of : Item → Category
category_of item = keyword_category (keyword_of item)

-- the category that an item reads which a word names; none where it names no item
abbrev pub of_named : Option Item → List Category
of_named None = []
of_named (Some item) = category_of item ∷ []

abbrev pub named_categories : List (List ℕ) → List Category
named_categories [] = []
named_categories (name ∷ names) = of_named (first_named items_table name) ++ named_categories names

-- the categories that items with these names read; without names those of all items
abbrev pub item_categories : List (List ℕ) → List Category
item_categories [] = categories
item_categories (name ∷ names) = named_categories (name ∷ names)

-- the values of a locale
pub record LocaleValues : Type 0 where
  pub ctype : CtypeValues
  pub numeric : NumericValues
  pub monetary : MonetaryValues
  pub time : TimeValues
  pub messages : MessagesValues

-- two locales have the same values in a category
abbrev pub AreAlike : Category → LocaleValues → LocaleValues → Type 0
AreAlike Ctype v w = v.ctype ≡ w.ctype
AreAlike Numeric v w = v.numeric ≡ w.numeric
AreAlike Monetary v w = v.monetary ≡ w.monetary
AreAlike Time v w = v.time ≡ w.time
AreAlike Messages v w = v.messages ≡ w.messages

-- what an item is in a locale
abbrev pub item_text : LocaleValues → Item → List ℕ
item_text v item = info v.ctype v.numeric v.monetary v.time v.messages item
