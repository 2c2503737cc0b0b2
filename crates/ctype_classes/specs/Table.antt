-- The character classes that each locale has, with their automatic members (XBD 7.3.1).
use Rattle.std.specs.Prelude.{Bool, true, false, List, [], ◌∷◌, map, filter, codes}
use Rattle.class_ranges.specs.Ranges.{Range}
use Rattle.charset.specs.Portable.{Name}
use Rattle.lc_base.specs.declared.category.Category.TheVariants as categories
use Rattle.keywords.specs.declared.row.Operands.{Operands}
use Rattle.keywords.specs.declared.row.Operands.TheVariants.{Copied, Characters, One, Several, PassedOver}
use Rattle.keywords.specs.Table.{KeywordRow, keywords}
use Rattle.keywords.specs.LookUp.{posix_ranges}

-- a class: its name, the values that it always has, those that it has where its keyword is absent, and the classes above it in
-- the table whose members it has
pub record ClassRow : Type 0 where
  pub name : Name
  pub always : List Range
  pub absent : List Range
  pub parts : List Name

-- a class of the table of keywords
abbrev pub row : Name → List Range → List Name → ClassRow
row name always parts = record { name = name; always = always; absent = posix_ranges categories.Ctype name; parts = parts }

-- the twelve classes; which members are automatic beyond the standard's is our own rule
abbrev pub class_table : List ClassRow
class_table =
    row (codes "upper") ((65, 90) ∷ []) [] ∷
    row (codes "lower") ((97, 122) ∷ []) [] ∷
    row (codes "alpha") [] (codes "upper" ∷ codes "lower" ∷ []) ∷
    row (codes "digit") ((48, 57) ∷ []) [] ∷
    row (codes "alnum") [] (codes "alpha" ∷ codes "digit" ∷ []) ∷
    row (codes "blank") ((9, 9) ∷ (32, 32) ∷ []) [] ∷
    row (codes "space") ((9, 13) ∷ (32, 32) ∷ []) (codes "blank" ∷ []) ∷
    row (codes "cntrl") [] [] ∷
    row (codes "punct") [] [] ∷
    row (codes "xdigit") ((48, 57) ∷ (65, 70) ∷ (97, 102) ∷ []) [] ∷
    row (codes "graph") [] (codes "upper" ∷ codes "lower" ∷ codes "alpha" ∷ codes "digit" ∷ codes "xdigit" ∷ codes "punct" ∷ []) ∷
    row (codes "print") ((32, 32) ∷ []) (codes "graph" ∷ []) ∷ []

-- a class that a charclass line declares has its listed members alone
abbrev pub declared_row : Name → ClassRow
declared_row name = record { name = name; always = []; absent = []; parts = [] }

-- whether a keyword names a class: its operands are characters
abbrev pub takes_characters : Operands → Bool
takes_characters Characters = true
takes_characters Copied = false
takes_characters (One element) = false
takes_characters (Several element) = false
takes_characters PassedOver = false

-- the names of the twelve classes, in the order of the standard's page
unfoldable pub class_names : List Name
class_names = map (λ (k : KeywordRow). k.name) (filter (λ (k : KeywordRow). takes_characters k.takes) (keywords categories.Ctype))
