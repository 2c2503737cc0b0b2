-- Marks of libraries: SipHash of what a library was made of, as one stream of bytes (our own).
use Rattle.std.specs.Prelude.{◌≡◌, ℕ, ◌<◌, ◌^◌, List, [], ◌∷◌, ◌++◌, length, All}
use Rattle.std.specs.Int.{w64, to_le_bytes}
use Rattle.std.specs.Hash.DefaultHasher as sip
use Rattle.std.specs.declared.hash.DefaultHasher.{DefaultHasher}
use Rattle.library_parts.specs.declared.part.LibraryPart.{LibraryPart}
use Rattle.library_parts.specs.declared.part.PartKind.{PartKind}
use Rattle.library_parts.specs.declared.part.PartKind.TheVariants.{Charmap, Source, Catalog}

-- what a library was made of: a text, parts, or two libraries with these marks
pub data Origin : Type 0 where
  OfText : (text : List ℕ) → Origin
  OfParts : (parts : List LibraryPart) → Origin
  OfLibraries : (first second : ℕ) → Origin

-- ---- as bytes

-- a number below 2^64 as eight bytes, the lowest first
abbrev pub word : ℕ → List ℕ
word n = to_le_bytes w64 n

-- a text behind its length
abbrev pub sized : List ℕ → List ℕ
sized text = word (length text) ++ text

abbrev pub kind_number : PartKind → ℕ
kind_number Charmap = 0
kind_number Source = 1
kind_number Catalog = 2

-- a part: its kind, and then its name, its label and its text
abbrev pub part_bytes : LibraryPart → List ℕ
part_bytes p = kind_number p.kind ∷ (sized p.name ++ (sized p.label ++ sized p.text))

-- parts in their order
abbrev pub parts_bytes : List LibraryPart → List ℕ
parts_bytes [] = []
parts_bytes (p ∷ ps) = part_bytes p ++ parts_bytes ps

-- what a library was made of, behind a byte that says which of the three it is
abbrev pub stream : Origin → List ℕ
stream (OfText text) = 0 ∷ text
stream (OfParts ps) = 1 ∷ parts_bytes ps
stream (OfLibraries first second) = 2 ∷ (word first ++ word second)

-- ---- marks

-- a hasher that takes bytes
abbrev pub fed : DefaultHasher → List ℕ → DefaultHasher
fed hasher bytes = sip.write hasher bytes

-- SipHash-1-3 of bytes under a key of zeros
abbrev pub sip_hash : List ℕ → ℕ
sip_hash bytes = sip.finish (fed sip.initial bytes)

-- the mark of a library that was made of this
unfoldable pub mark_of : Origin → ℕ
mark_of origin = sip_hash (stream origin)

-- ---- what the law speaks of

-- the lengths of a part are below 2^64, as those of all that is in memory are
abbrev pub IsCounted : LibraryPart → Type 0
IsCounted p = (length p.name < 2 ^ 64) × (length p.label < 2 ^ 64) × (length p.text < 2 ^ 64)

-- lengths and marks have 64 bits
abbrev pub IsTellable : Origin → Type 0
IsTellable (OfText text) = Unit {0}
IsTellable (OfParts ps) = All IsCounted ps
IsTellable (OfLibraries first second) = (first < 2 ^ 64) × (second < 2 ^ 64)

-- what is not the same has other bytes
abbrev pub BytesTell : Type 0
BytesTell = (x y : Origin) → IsTellable x → IsTellable y → stream x ≡ stream y → x ≡ y
