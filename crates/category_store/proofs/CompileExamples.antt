-- Worked examples of compiled locales.
use Rattle.std.specs.Prelude.{◌≡◌, ℕ, ◌+◌, List, [], ◌∷◌, codes, None, Ok, Err, refl}
use Rattle.lc_base.specs.declared.place.Place.{Place}
use Rattle.lc_base.specs.declared.category.Category.{Category}
use Rattle.lc_base.specs.declared.category.Category.TheVariants.{Ctype, Numeric, Monetary, Time, Messages}
use Rattle.lc_base.specs.declared.reason.Reason.TheVariants.{EmptyRadix, DigitsNotTen, BadCurrency, WrongCount}
use Rattle.charset.specs.CodedSet.{utf8, posix}
use Rattle.keywords.specs.declared.source.Value.TheVariants.{Text, Chars}
use Rattle.keywords.specs.declared.source.Entry.{Entry}
use Rattle.keywords.specs.declared.source.Section.{Section}
use Rattle.keywords.specs.declared.source.Body.TheVariants.{Copy, Entries}
use Rattle.ctype_classes.specs.Lines.{rule_of_line}
use Rattle.ctype_classes.specs.Lists.{classes_of}
use Rattle.ctype_classes.specs.Ctype.{ctype_values, posix_values as posix_classes}
use Rattle.numeric_cat.specs.NumericValues.{NumericValues}
use Rattle.numeric_cat.specs.Numeric.{posix_values}
use Rattle.monetary_cat.specs.Monetary.{posix_values as posix_money}
use Rattle.time_cat.specs.Keywords.{takes_of}
use Rattle.time_cat.specs.Faults.{line_checked}
use Rattle.time_cat.specs.Values.{time_values, posix_values as posix_times}
use Rattle.messages_cat.specs.Messages.{posix_values as posix_messages}
use Rattle.locale_sources.specs.Sources.{Source}
use Rattle.category_store.specs.Locale.{Locale, posix_locale}
use Rattle.category_store.specs.Compiled.{ctype_of, numeric_of, monetary_of, time_of, messages_of, category_of, locales_of}

at : ℕ → ℕ → Place
at line column = record { line = line; column = column }

-- LC_NUMERIC at a line, with this decimal_point
numeric : ℕ → List ℕ → Section
numeric line radix = record {
  category = Numeric;
  place = at line 1;
  body = Entries (record { place = at (line + 1) 1; keyword = codes "decimal_point"; values = (at (line + 1) 15, Text radix) ∷ [] } ∷ []);
}

-- LC_CTYPE at a line, with this character in digit
digits : ℕ → ℕ → Section
digits line w = record {
  category = Ctype;
  place = at line 1;
  body = Entries (record { place = at (line + 1) 1; keyword = codes "digit"; values = (at (line + 1) 7, Chars w w) ∷ [] } ∷ []);
}

-- LC_MONETARY at a line, with this int_curr_symbol
money : ℕ → List ℕ → Section
money line symbol = record {
  category = Monetary;
  place = at line 1;
  body = Entries (record { place = at (line + 1) 1; keyword = codes "int_curr_symbol"; values = (at (line + 1) 17, Text symbol) ∷ [] } ∷ []);
}

-- LC_MESSAGES at a line, with this yesexpr
answers : ℕ → List ℕ → Section
answers line expression = record {
  category = Messages;
  place = at line 1;
  body = Entries (record { place = at (line + 1) 1; keyword = codes "yesexpr"; values = (at (line + 1) 9, Text expression) ∷ [] } ∷ []);
}

-- am_pm at a line, with one text
one_half_day : ℕ → List Entry
one_half_day line = record { place = at line 1; keyword = codes "am_pm"; values = (at line 7, Text (codes "a.m.")) ∷ [] } ∷ []

-- LC_TIME at a line, with this line behind it
half_days : ℕ → Section
half_days line = record { category = Time; place = at line 1; body = Entries (one_half_day (line + 1)) }

-- a section at a line that has no keyword
bare : Category → ℕ → Section
bare category line = record { category = category; place = at line 1; body = Entries [] }

-- a section at a line that copies
copies : Category → ℕ → List ℕ → Section
copies category line name = record { category = category; place = at line 1; body = Copy (at (line + 1) 6) name }

locale : List ℕ → List Section → Source
locale name sections = record { key = None; name = name; charset = utf8; sections = sections }

-- ---- compiled categories

category_of-posix : category_of posix_values numeric_of (locale (codes "a") (copies Numeric 2 (codes "C") ∷ []) ∷ []) Numeric 1 ≡ Ok posix_values
unfolding at copies locale
category_of-posix = refl

comma : NumericValues
comma = record posix_values { decimal_point = codes "," }

-- a compiled locale that has the POSIX locale's values in each other category
abbrev with_numeric : List ℕ → ℕ → NumericValues → Locale
with_numeric name mask values = record posix_locale { name = name; available = mask; numeric = values }

abbrev chain : List Source
chain =
    locale (codes "a") (copies Numeric 2 (codes "b") ∷ []) ∷ locale (codes "b") (copies Numeric 9 (codes "c") ∷ []) ∷
    locale (codes "c") (copies Numeric 16 (codes "d") ∷ []) ∷ locale (codes "d") (numeric 23 (codes ",") ∷ []) ∷ []

-- each locale of a chain has what the last one says, under its own name
locales_of-chain : locales_of chain ≡ Ok (
    with_numeric (codes "a") 2 comma ∷ with_numeric (codes "b") 2 comma ∷
    with_numeric (codes "c") 2 comma ∷ with_numeric (codes "d") 2 comma ∷ [])
unfolding at copies numeric locale comma
locales_of-chain = refl

-- copied classes are those of the source in which they are written, over its charset, with its header
copied_classes : category_of posix_classes ctype_of (record (locale (codes "a") (copies Ctype 2 (codes "b") ∷ [])) { charset = posix } ∷ locale (codes "b") (bare Ctype 9 ∷ []) ∷ []) Ctype 1 ≡ ctype_values [] (at 9 1) utf8
unfolding at copies bare locale
copied_classes = refl

-- copied texts of times are those of the source in which they are written
copied_times : category_of posix_times time_of (locale (codes "a") (copies Time 2 (codes "b") ∷ []) ∷ locale (codes "b") (half_days 9 ∷ []) ∷ []) Time 1 ≡ time_values (one_half_day 10)
unfolding copies half_days locale
copied_times = refl

-- so are copied texts of answers; a keyword that is absent there has its POSIX value
copied_answers : category_of posix_messages messages_of (locale (codes "a") (copies Messages 2 (codes "b") ∷ []) ∷ locale (codes "b") (answers 9 (codes "^[jJ]") ∷ []) ∷ []) Messages 1 ≡ Ok (record { yesexpr = codes "^[jJ]"; noexpr = codes "^[nN]" })
unfolding copies answers locale
copied_answers = refl

-- the fault of a copied section has its own place, and comes with the copying locale: before that of LC_MONETARY there
copied_fault : locales_of (locale (codes "a") (copies Numeric 2 (codes "b") ∷ money 5 (codes "USD") ∷ []) ∷ locale (codes "b") (numeric 9 [] ∷ []) ∷ []) ≡ Err (at 10 15, EmptyRadix)
unfolding at copies numeric money locale
copied_fault = refl

-- the symbol of a copied LC_MONETARY has its fault where it is written
copied_money : category_of posix_money monetary_of (locale (codes "a") (copies Monetary 2 (codes "b") ∷ []) ∷ locale (codes "b") (money 9 (codes "USD") ∷ []) ∷ []) Monetary 1 ≡ Err (at 10 17, BadCurrency)
unfolding at copies money locale
copied_money = refl

-- LC_CTYPE comes before LC_NUMERIC, wherever it stands in the text
classes_first : locales_of (locale (codes "a") (numeric 2 [] ∷ digits 5 58 ∷ []) ∷ []) ≡ Err (at 6 7, DigitsNotTen)
unfolding at numeric digits locale ctype_values classes_of rule_of_line
classes_first = refl

-- LC_MONETARY comes before LC_TIME, wherever it stands in the text
money_before_times : locales_of (locale (codes "a") (half_days 2 ∷ money 5 (codes "USD") ∷ []) ∷ []) ≡ Err (at 6 17, BadCurrency)
unfolding at half_days money locale
money_before_times = refl

-- the fault of LC_TIME, where no category before it has one
times_behind_money : locales_of (locale (codes "a") (half_days 2 ∷ money 5 (codes "USD ") ∷ []) ∷ []) ≡ Err (at 3 1, WrongCount)
unfolding at one_half_day half_days money locale line_checked takes_of
times_behind_money = refl

-- in a locale the categories go in their order, not in that of the text
order_of_categories : locales_of (locale (codes "a") (answers 2 [] ∷ money 5 (codes "USD") ∷ numeric 9 [] ∷ []) ∷ []) ≡ Err (at 10 15, EmptyRadix)
unfolding at numeric money answers locale
order_of_categories = refl
