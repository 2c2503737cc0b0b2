-- The names of locale objects (XSH setlocale).
use Rattle.std.specs.Prelude.{ℕ, List, [], ◌∷◌, map, if◌then◌else◌}
use Rattle.std.specs.List.{list_all}
use Rattle.std.specs.Str.{bytes_eq}
use Rattle.lc_base.specs.declared.category.Category.{Category}
use Rattle.lc_base.specs.Categories.{categories}
use Rattle.mask_compose.specs.Parts.{Parts, part_of}
use Rattle.mask_compose.specs.Names.{mixed_name}
use Rattle.category_store.specs.LibraryData.{LibraryData}
use Rattle.category_store.specs.Library.{locale_at}
use Rattle.script_words.specs.declared.categories.CategoryArgument.{CategoryArgument}
use Rattle.script_words.specs.declared.categories.CategoryArgument.TheVariants.{All, One}

-- the name of the locale that an object has for a category: the one that was named, also where it copies
abbrev pub part_name : LibraryData → Parts → Category → List ℕ
part_name library object category = (locale_at library (part_of object category)).name

-- the common name where all are equal, else the mixed name
abbrev pub joint_name : List (List ℕ) → List ℕ
joint_name [] = mixed_name []
joint_name (name ∷ names) = if list_all (bytes_eq name) names then name else mixed_name (name ∷ names)

-- the name of an object for a category, or for all of them (XSH setlocale; the form of a mixed name is our own)
abbrev pub object_name : LibraryData → Parts → CategoryArgument → List ℕ
object_name library object (One category) = part_name library object category
object_name library object All = joint_name (map (part_name library object) categories)
