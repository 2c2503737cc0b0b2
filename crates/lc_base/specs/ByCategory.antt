-- Values by category (XBD 7.3).
use Rattle.lc_base.specs.declared.category.Category.{Category}
use Rattle.lc_base.specs.declared.category.Category.TheVariants.{Ctype, Numeric, Monetary, Time, Messages}
use Rattle.lc_base.specs.declared.by_category.ByCategory.{ByCategory}

-- the value for a category
abbrev pub in_category : {T : Type 0} → ByCategory T → Category → T
in_category values Ctype = values.ctype
in_category values Numeric = values.numeric
in_category values Monetary = values.monetary
in_category values Time = values.time
in_category values Messages = values.messages

-- for each category what f gives for it
abbrev pub by_category : {T : Type 0} → (Category → T) → ByCategory T
by_category f = record { ctype = f Ctype; numeric = f Numeric; monetary = f Monetary; time = f Time; messages = f Messages }

-- for each category what f gives for its value
abbrev pub mapped : {T U : Type 0} → (T → U) → ByCategory T → ByCategory U
mapped f values = by_category (λ category. f (in_category values category))
