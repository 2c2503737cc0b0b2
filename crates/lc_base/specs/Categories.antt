-- Locale categories and their names (XBD 7.3).
use Rattle.std.specs.Prelude.{ℕ, List, [], ◌∷◌, codes, find, slice_index, Option}
use Rattle.std.specs.Str.{bytes_eq}
use Rattle.lc_base.specs.declared.category.Category.{Category}
use Rattle.lc_base.specs.declared.category.Category.TheVariants.{Ctype, Numeric, Monetary, Time, Messages}

-- the five categories in our own order, that of their bits
abbrev pub categories : List Category
categories = Ctype ∷ Numeric ∷ Monetary ∷ Time ∷ Messages ∷ []

-- the name of a category
abbrev pub category_name : Category → List ℕ
category_name Ctype = codes "LC_CTYPE"
category_name Numeric = codes "LC_NUMERIC"
category_name Monetary = codes "LC_MONETARY"
category_name Time = codes "LC_TIME"
category_name Messages = codes "LC_MESSAGES"

-- the category of a name
abbrev pub category_named : List ℕ → Option Category
category_named name = find (λ c. bytes_eq (category_name c) name) categories

-- the place of a category in their order
abbrev pub category_index : Category → ℕ
category_index Ctype = 0
category_index Numeric = 1
category_index Monetary = 2
category_index Time = 3
category_index Messages = 4

-- the number for a category, of five in their order
abbrev pub number_for : List ℕ → Category → ℕ
number_for numbers category = slice_index numbers (category_index category)
