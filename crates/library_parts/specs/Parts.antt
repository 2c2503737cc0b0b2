-- The checks of parts by their names and sizes (our own).
use Rattle.std.specs.Prelude.{ℕ, ◌+◌, ◌==◌, nat_le, Bool, false, not, ◌&&◌, ◌||◌, List, [], ◌∷◌, ◌++◌, length, Option, Some, None, is_some, Ok, Err, if◌then◌else◌}
use Rattle.lc_base.specs.BuiltIn.{is_built_in_charset}
use Rattle.lc_base.specs.Named.{with_named}
use Rattle.lc_base.specs.Tables.{first_named}
use Rattle.lc_base.specs.Reading.{◌>>=◌}
use Rattle.script_words.specs.Names.{is_formed, is_locale_name, is_part_name, is_charmap_name}
use Rattle.library_parts.specs.declared.fault.Wrong.{Wrong}
use Rattle.library_parts.specs.declared.fault.Wrong.TheVariants.{TooLong, BadName, NameTwice, TooMany, NoCharmap}
use Rattle.library_parts.specs.declared.part.LibraryPart.{LibraryPart}
use Rattle.library_parts.specs.declared.part.PartKind.{PartKind}
use Rattle.library_parts.specs.declared.part.PartKind.TheVariants.{Charmap, Source, Catalog}
use Rattle.library_parts.specs.declared.seen.Seen.{Seen}
use Rattle.library_parts.specs.Limits.{PART_LIMIT, SIZE_LIMIT}
use Rattle.library_parts.specs.Lines.{line_count}
use Rattle.library_parts.specs.Told.{Tells}

-- names of parts, each with the number of its part
abbrev pub Names : Type 0
Names = List (List ℕ × ℕ)

-- ---- one part

-- whether the name and the label are formed as those of the part's kind, as a bundle wants them of a block
abbrev pub is_named : LibraryPart → Bool
is_named p = elim p.kind [
  | Charmap ↦ is_charmap_name p.name && (length p.label == 0)
  | Source ↦ is_locale_name p.name && is_formed p.label
  | Catalog ↦ is_locale_name p.name && is_part_name p.label
]

-- the key of a catalog: its name and its locale with a `/` between them, which neither of them has
abbrev pub catalog_key : List ℕ → List ℕ → List ℕ
catalog_key name locale = name ++ 47 ∷ locale

-- the key of a part, which it has alone among those of its kind
abbrev pub key : LibraryPart → List ℕ
key p = elim p.kind [
  | Charmap ↦ p.name
  | Source ↦ p.name
  | Catalog ↦ catalog_key p.name p.label
]

-- ---- parts, one after another

-- before the first part
abbrev pub at_first : Seen
at_first = record { charmaps = []; sources = []; catalogs = []; before = 0 }

-- the keys of the parts of a kind
abbrev pub names_in : Seen → PartKind → Names
names_in s Charmap = s.charmaps
names_in s Source = s.sources
names_in s Catalog = s.catalogs

-- with the key of a part of a kind, which has this number
abbrev pub with_name : Seen → PartKind → List ℕ → ℕ → Seen
with_name s Charmap name n = record s { charmaps = with_named s.charmaps name n }
with_name s Source name n = record s { sources = with_named s.sources name n }
with_name s Catalog name n = record s { catalogs = with_named s.catalogs name n }

-- whether a part is too long, or stands behind too many lines
abbrev pub is_long : Seen → LibraryPart → Bool
is_long s p = nat_le SIZE_LIMIT (length p.text) || nat_le SIZE_LIMIT (s.before + 1)

-- what is wrong with a part behind others: its size, its name, that another has it, or that there are too many
abbrev pub wrong_with : Seen → LibraryPart → Option Wrong
wrong_with s p =
    if is_long s p then Some TooLong else
    if not (is_named p) then Some BadName else
    if is_some (first_named (names_in s p.kind) (key p)) then Some NameTwice else
    if nat_le PART_LIMIT (length (names_in s p.kind)) then Some TooMany else None

-- behind one more line than a part has
abbrev pub behind : Seen → LibraryPart → Seen
behind s p = record s { before = s.before + (line_count p.text + 1) }

-- one part more, which has this number
abbrev pub with_part : Seen → ℕ → LibraryPart → Seen
with_part s n p = behind (with_name s p.kind (key p) n) p

-- a part with this number
abbrev pub part_seen : Seen → ℕ → LibraryPart → Tells Seen
part_seen s n p = elim (wrong_with s p) [ None ↦ Ok (with_part s n p) | Some wrong ↦ Err (n, wrong) ]

-- one part after another, up to the first that is wrong; the first of them has this number
abbrev pub parts_seen : Seen → ℕ → List LibraryPart → Tells Seen
parts_seen s n [] = Ok s
parts_seen s n (p ∷ ps) = part_seen s n p >>= λ t. parts_seen t (n + 1) ps

-- ---- charsets

-- whether a part is a source whose charset is neither built in nor one of these charmaps
abbrev pub lacks_charset : Names → LibraryPart → Bool
lacks_charset charmaps p = elim p.kind [
  | Charmap ↦ false
  | Source ↦ not (is_built_in_charset p.label || is_some (first_named charmaps p.label))
  | Catalog ↦ false
]

-- parts whose charsets are known, up to the first whose charset is not; the first of them has this number
abbrev pub charsets_known : Names → ℕ → List LibraryPart → Tells (Unit {0})
charsets_known charmaps n [] = Ok tt
charsets_known charmaps n (p ∷ ps) = if lacks_charset charmaps p then Err (n, NoCharmap) else charsets_known charmaps (n + 1) ps
