-- Values by category are told by the value for each category.
use Rattle.std.proofs.Common.{◌≡◌, refl}
use Rattle.lc_base.specs.declared.category.Category.{Category}
use Rattle.lc_base.specs.declared.category.Category.TheVariants.{Ctype, Numeric, Monetary, Time, Messages}
use Rattle.lc_base.specs.declared.by_category.ByCategory.{ByCategory}
use Rattle.lc_base.specs.ByCategory.{in_category, by_category}

-- the value for a category is what was given for it
pub in_category-given : {T : Type 0} (f : Category → T) (category : Category) → in_category (by_category f) category ≡ f category
in_category-given f Ctype = refl
in_category-given f Numeric = refl
in_category-given f Monetary = refl
in_category-given f Time = refl
in_category-given f Messages = refl

-- two with the same value for each category are the same
pub same_values : {T : Type 0} (a b : ByCategory T) → ((category : Category) → in_category a category ≡ in_category b category) → a ≡ b
same_values a b each = rw (each Ctype, each Numeric, each Monetary, each Time, each Messages) refl
