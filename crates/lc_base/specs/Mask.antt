-- Masks of locale categories (XSH newlocale).
use Rattle.std.specs.Prelude.{ℕ, ◌/◌, ◌%◌, Bool, ◌==◌}
use Rattle.lc_base.specs.declared.category.Category.{Category}
use Rattle.lc_base.specs.declared.category.Category.TheVariants.{Ctype, Numeric, Monetary, Time, Messages}

-- the bit of a category in a mask (our own numbers)
abbrev pub category_bit : Category → ℕ
category_bit Ctype = 1
category_bit Numeric = 2
category_bit Monetary = 4
category_bit Time = 8
category_bit Messages = 16

-- whether a mask with these bits has the category
abbrev pub includes : ℕ → Category → Bool
includes bits c = (bits / category_bit c) % 2 == 1
