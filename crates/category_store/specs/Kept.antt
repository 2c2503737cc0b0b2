-- Compiled categories as they are kept: each under the number of the source in which it is written.
use Rattle.std.specs.Prelude.{ℕ, zero, suc, List, [], ◌∷◌, map, slice_get, Option, Some, None, option_map, Ok, Err}
use Rattle.std.specs.Option.{option_or}
use Rattle.lc_base.specs.declared.place.Place.{Place}
use Rattle.lc_base.specs.declared.category.Category.{Category}
use Rattle.lc_base.specs.declared.category.Category.TheVariants.{Ctype, Numeric, Monetary, Time, Messages}
use Rattle.lc_base.specs.declared.reason.Reason.{Reason}
use Rattle.lc_base.specs.declared.by_category.ByCategory.{ByCategory}
use Rattle.lc_base.specs.ByCategory.{by_category}
use Rattle.lc_base.specs.Lines.{◌>>=◌}
use Rattle.lc_base.specs.Reading.{Reads}
use Rattle.ctype_classes.specs.Ctype.{posix_values as posix_classes}
use Rattle.numeric_cat.specs.Numeric.{posix_values}
use Rattle.monetary_cat.specs.Monetary.{posix_values as posix_money}
use Rattle.time_cat.specs.Values.{posix_values as posix_times}
use Rattle.messages_cat.specs.Messages.{posix_values as posix_messages}
use Rattle.locale_sources.specs.Sources.{Source}
use Rattle.locale_sources.specs.declared.rows.LocaleRow.{LocaleRow}
use Rattle.category_store.specs.declared.kept.CategoryLists.{CategoryLists}
use Rattle.category_store.specs.Written.{Written, written_for}
use Rattle.category_store.specs.Locale.{Locale}
use Rattle.category_store.specs.Compiled.{ctype_of, numeric_of, monetary_of, time_of, messages_of}

-- ---- one category of all sources

-- what the keyword lists of a category give, source by source, where there are any
abbrev pub slots : {V : Type 0} → (Written → Reads V) → List Source → Category → List (Option (Reads V))
slots read sources category = map (λ (s : Source). option_map read (written_for category s)) sources

-- what is kept under a number, from 1
abbrev pub kept : {V : Type 0} → List (Option (Reads V)) → ℕ → Option (Reads V)
kept slots zero = None
kept slots (suc k) = slice_get slots k >>= λ slot. slot

abbrev pub given_or : {V : Type 0} → V → Option (Reads V) → Reads V
given_or posix None = Ok posix
given_or posix (Some given) = given

-- what is kept under a number, or else the POSIX locale's category
abbrev pub kept_or : {V : Type 0} → V → List (Option (Reads V)) → ℕ → Reads V
kept_or posix slots n = given_or posix (kept slots n)

-- the value of what was read, the POSIX locale's where it has a fault
abbrev pub value_or : {V : Type 0} → V → Reads V → V
value_or posix (Ok v) = v
value_or posix (Err fault) = posix

-- the fault of what was read
abbrev pub fault_in : {V : Type 0} → Reads V → Option (Place × Reason)
fault_in (Ok v) = None
fault_in (Err fault) = Some fault

-- ---- the five categories

-- the categories of sources
abbrev pub kept_of : List Source → CategoryLists
kept_of sources = record {
  ctype = slots ctype_of sources Ctype;
  numeric = slots numeric_of sources Numeric;
  monetary = slots monetary_of sources Monetary;
  time = slots time_of sources Time;
  messages = slots messages_of sources Messages;
}

-- a locale whose categories are kept under these numbers
abbrev pub locale_with : List ℕ → ℕ → CategoryLists → ByCategory ℕ → Locale
locale_with name mask kept ends = record {
  name = name;
  available = mask;
  ctype = value_or posix_classes (kept_or posix_classes kept.ctype ends.ctype);
  numeric = value_or posix_values (kept_or posix_values kept.numeric ends.numeric);
  monetary = value_or posix_money (kept_or posix_money kept.monetary ends.monetary);
  time = value_or posix_times (kept_or posix_times kept.time ends.time);
  messages = value_or posix_messages (kept_or posix_messages kept.messages ends.messages);
}

-- the numbers under which the categories of the POSIX locale stand
abbrev pub posix_numbers : ByCategory ℕ
posix_numbers = by_category (λ category. 0)

-- the first fault of the categories that are kept under these numbers
abbrev pub ends_fault : CategoryLists → ByCategory ℕ → Option (Place × Reason)
ends_fault kept ends =
    option_or (option_or (option_or (option_or
    (fault_in (kept_or posix_classes kept.ctype ends.ctype))
    (fault_in (kept_or posix_values kept.numeric ends.numeric)))
    (fault_in (kept_or posix_money kept.monetary ends.monetary)))
    (fault_in (kept_or posix_times kept.time ends.time)))
    (fault_in (kept_or posix_messages kept.messages ends.messages))

-- ---- rows

-- the locale of a row
abbrev pub locale_in : CategoryLists → LocaleRow → Locale
locale_in kept r = locale_with r.name r.available kept r.ends

-- the first fault of rows
abbrev pub rows_fault : CategoryLists → List LocaleRow → Option (Place × Reason)
rows_fault kept [] = None
rows_fault kept (r ∷ rs) = option_or (ends_fault kept r.ends) (rows_fault kept rs)

-- what stands under a number that counts from 1
abbrev pub row_at : {A : Type 0} → List A → ℕ → Option A
row_at rows zero = None
row_at rows (suc k) = slice_get rows k
