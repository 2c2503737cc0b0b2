-- Locales by the numbers of the sources in which their categories are written.
use Rattle.std.specs.Prelude.{ℕ, ◌+◌, List, [], ◌∷◌, Option, Some, None, is_some, Ok, Err, if◌then◌else◌}
use Rattle.lc_base.specs.declared.place.Place.{Place}
use Rattle.lc_base.specs.declared.category.Category.{Category}
use Rattle.lc_base.specs.declared.category.Category.TheVariants.{Ctype, Numeric, Monetary, Time, Messages}
use Rattle.lc_base.specs.declared.reason.Reason.{Reason}
use Rattle.lc_base.specs.declared.by_category.ByCategory.{ByCategory}
use Rattle.lc_base.specs.ByCategory.{by_category}
use Rattle.lc_base.specs.Mask.{category_bit}
use Rattle.lc_base.specs.Reading.{Reads}
use Rattle.locale_sources.specs.Sources.{Source}
use Rattle.locale_sources.specs.Sections.{section_at}
use Rattle.locale_sources.specs.declared.rows.LocaleRow.{LocaleRow}
use Rattle.locale_sources.specs.Copies.{end_of, copy_fault}

-- the bit of a category that a source has
abbrev pub bit_at : List Source → ℕ → Category → ℕ
bit_at sources n category = if is_some (section_at sources category n) then category_bit category else 0

-- the mask of the categories that a source has
abbrev pub available : List Source → ℕ → ℕ
available sources n =
    bit_at sources n Ctype + bit_at sources n Numeric + bit_at sources n Monetary + bit_at sources n Time + bit_at sources n Messages

-- the numbers of the sources in which the categories of a source are written
abbrev pub ends_at : List Source → ℕ → ByCategory ℕ
ends_at sources n = by_category (λ category. end_of sources category n)

-- a locale: its name, its categories, and where they are written
abbrev pub row_of : List Source → ℕ → Source → LocaleRow
row_of sources n s = record { name = s.name; available = available sources n; ends = ends_at sources n }

-- the locales of sources, of which the first has this number
abbrev pub rows_from : List Source → ℕ → List Source → List LocaleRow
rows_from sources n [] = []
rows_from sources n (s ∷ ss) = row_of sources n s ∷ rows_from sources (n + 1) ss

-- what is there unless there is a fault
abbrev pub given_unless : {A : Type 0} → Option (Place × Reason) → A → Reads A
given_unless None x = Ok x
given_unless (Some fault) x = Err fault

-- the locales of sources, or the first fault of their copies
abbrev pub rows_of : List Source → Reads (List LocaleRow)
rows_of sources = given_unless (copy_fault sources) (rows_from sources 1 sources)
