-- Case maps (XBD 7.3.1, toupper and tolower).
use Rattle.std.specs.Prelude.{ℕ, ◌==◌, List, [], ◌∷◌, map, codes, Option, Some, None, if◌then◌else◌}
use Rattle.std.specs.BTreeMap.{insert_entry}
use Rattle.std.specs.Ordering.{nat_cmp}
pub use Rattle.class_ranges.specs.Maps.{image}
use Rattle.lc_base.specs.declared.category.Category.TheVariants as categories
use Rattle.keywords.specs.declared.source.Entry.{Entry}
use Rattle.keywords.specs.LookUp.{posix_pairs}
use Rattle.keywords.specs.Keywords.{operands, pairs}

-- a pair the other way round
abbrev pub reversed : ℕ × ℕ → ℕ × ℕ
reversed pair = (pair.1, pair.0)

-- the pairs that map to upper case: those of toupper, or where it is absent those of the portable letters
abbrev pub upper_pairs : List Entry → List (ℕ × ℕ)
upper_pairs entries = elim (operands entries (codes "toupper")) [ None ↦ posix_pairs categories.Ctype (codes "toupper") | Some vs ↦ pairs vs ]

-- the pairs that map to lower case: those of tolower, or where it is absent the others the other way round
abbrev pub lower_pairs : List Entry → List (ℕ × ℕ)
lower_pairs entries = elim (operands entries (codes "tolower")) [ None ↦ map reversed (upper_pairs entries) | Some vs ↦ pairs vs ]

-- the map of pairs, in the order of their first members; of pairs with one first member the first counts
abbrev pub map_of : List (ℕ × ℕ) → List (ℕ × ℕ)
map_of [] = []
map_of (pair ∷ pairs) = insert_entry nat_cmp (map_of pairs) pair.0 pair.1

-- what the first pair with a first member gives
abbrev pub first_image : List (ℕ × ℕ) → ℕ → Option ℕ
first_image [] w = None
first_image (pair ∷ pairs) w = if w == pair.0 then Some pair.1 else first_image pairs w
