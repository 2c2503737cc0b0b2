-- The categories that a source lacks (our own).
use Rattle.std.specs.Prelude.{◌==◌, Bool, ◌&&◌, not, List, [], ◌∷◌, if◌then◌else◌}
use Rattle.std.specs.List.{list_any, flat_map}
use Rattle.lc_base.specs.declared.category.Category.{Category}
use Rattle.lc_base.specs.Categories.{category_index}
use Rattle.keywords.specs.declared.source.Section.{Section}

-- whether a category is among these
abbrev pub has_category : Category → List Category → Bool
has_category category categories = list_any (λ (other : Category). category_index other == category_index category) categories

-- whether one of these sections is that of a category
abbrev pub has_section : Category → List Section → Bool
has_section category sections = list_any (λ (section : Section). category_index section.category == category_index category) sections

-- whether a category is asked for, and no section is its
abbrev pub is_lacking : List Section → List Category → Category → Bool
is_lacking sections asked category = has_category category asked && not (has_section category sections)

-- those of some categories that are asked for, and have no section
abbrev pub lacking_among : List Section → List Category → List Category → List Category
lacking_among sections asked categories = flat_map (λ category. if is_lacking sections asked category then category ∷ [] else []) categories
