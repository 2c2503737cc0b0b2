-- What a locale object holds: one part a category, each part seen as a number (XSH newlocale).
use Rattle.std.specs.Prelude.{ℕ, if◌then◌else◌}
use Rattle.lc_base.specs.declared.category.Category.{Category}
use Rattle.lc_base.specs.declared.category.Category.TheVariants.{Ctype, Numeric, Monetary, Time, Messages}
use Rattle.lc_base.specs.Mask.{includes}

-- the numbers of an object's five parts
pub record Parts : Type 0 where
  pub ctype : ℕ
  pub numeric : ℕ
  pub monetary : ℕ
  pub time : ℕ
  pub messages : ℕ

-- the part of a category
abbrev pub part_of : Parts → Category → ℕ
part_of parts Ctype = parts.ctype
part_of parts Numeric = parts.numeric
part_of parts Monetary = parts.monetary
part_of parts Time = parts.time
part_of parts Messages = parts.messages

-- the part of a category: from the picks where the mask has the category, else from the base (XSH newlocale)
abbrev pub chosen : ℕ → Parts → Parts → Category → ℕ
chosen mask picks base category = if includes mask category then part_of picks category else part_of base category

-- the picks in the categories of the mask, the base in the others
abbrev pub composed : ℕ → Parts → Parts → Parts
composed mask picks base = record {
  ctype = chosen mask picks base Ctype;
  numeric = chosen mask picks base Numeric;
  monetary = chosen mask picks base Monetary;
  time = chosen mask picks base Time;
  messages = chosen mask picks base Messages;
}
