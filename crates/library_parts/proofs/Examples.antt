-- Worked examples of parts: their checks, their blocks and their faults.
use Rattle.std.specs.Prelude.{◌≡◌, ℕ, List, [], ◌∷◌, ◌++◌, codes, Some, Err, refl}
use Rattle.lc_base.specs.declared.place.Place.{Place}
use Rattle.lc_base.specs.declared.block.Block.{Block}
use Rattle.lc_base.specs.declared.reason.Reason.TheVariants.{CopyMissing}
use Rattle.library_parts.specs.declared.fault.Wrong.TheVariants.{BadName, NameTwice, NoCharmap, Text}
use Rattle.library_parts.specs.declared.part.LibraryPart.{LibraryPart}
use Rattle.library_parts.specs.declared.part.PartKind.TheVariants.{Charmap, Source, Catalog}
use Rattle.library_parts.specs.declared.books.NamedBook.{NamedBook}
use Rattle.library_parts.specs.Books.{number_of, message_at}
use Rattle.library_parts.specs.Places.{befores, blocks_of_parts, told_of}
use Rattle.library_parts.specs.Made.{made}
use Rattle.script_words.specs.Names.{is_formed, is_locale_name, is_part_name, is_charmap_name}

abbrev line : List ℕ → List ℕ
line bytes = bytes ++ 10 ∷ []

-- two lines
abbrev lent : List ℕ
lent = line (codes "LC_NUMERIC") ++ line (codes "END LC_NUMERIC")

-- three lines that copy what another part has
abbrev copying : List ℕ
copying = line (codes "LC_NUMERIC") ++ line (codes "copy \"a\"") ++ line (codes "END LC_NUMERIC")

abbrev source : List ℕ → List ℕ → List ℕ → LibraryPart
source name charset text = record { kind = Source; name = name; label = charset; text = text }

abbrev charmap : List ℕ → List ℕ → LibraryPart
charmap name text = record { kind = Charmap; name = name; label = []; text = text }

abbrev catalog : List ℕ → List ℕ → List ℕ → LibraryPart
catalog name locale text = record { kind = Catalog; name = name; label = locale; text = text }

abbrev at : ℕ → ℕ → Place
at l column = record { line = l; column = column }

abbrev source_block : List ℕ → ℕ → List ℕ → Block
source_block name first text = record { name = name; charset = codes "UTF-8"; first_line = first; text = text }

-- a source, a catalog, and a source that copies the first one's category
abbrev three : List LibraryPart
three = source (codes "a") (codes "UTF-8") lent ∷ catalog (codes "m") (codes "a") (codes "1 x") ∷ source (codes "b") (codes "UTF-8") copying ∷ []

-- a text without its last newline has as many lines as one with it
befores-three : befores 0 three ≡ 0 ∷ 3 ∷ 5 ∷ []
befores-three = refl

-- the sources are one text's blocks, in which the copy finds the locale before it
blocks-three : blocks_of_parts three ≡ record {
  charmaps = [];
  sources = source_block (codes "a") 1 lent ∷ source_block (codes "b") 6 copying ∷ [];
  catalogs = record { name = codes "m"; charset = codes "a"; first_line = 4; text = codes "1 x" } ∷ [];
  befores = 0 ∷ 3 ∷ 5 ∷ [];
}
blocks-three = refl

-- a fault at the copy is that of its part, in its second line
told-third : told_of {A = ℕ} (befores 0 three) (Err (at 7 6, CopyMissing)) ≡ Err (2, Text (at 2 6) CopyMissing)
told-third = refl

-- the line behind the last of a part is that part's
told-behind : told_of {A = ℕ} (befores 0 three) (Err (at 3 1, CopyMissing)) ≡ Err (0, Text (at 3 1) CopyMissing)
told-behind = refl

-- a second locale of a name is refused, as a charmap of the name is not
twice : made (charmap (codes "a") [] ∷ source (codes "a") (codes "UTF-8") lent ∷ source (codes "a") (codes "POSIX") lent ∷ []) ≡ Err (2, NameTwice)
unfolding is_formed is_locale_name is_charmap_name
twice = refl

-- a catalog of the same name for another locale is none
two_locales : made (catalog (codes "m") (codes "a") [] ∷ catalog (codes "m") (codes "b") [] ∷ catalog (codes "m") (codes "a") [] ∷ []) ≡ Err (2, NameTwice)
unfolding is_formed is_locale_name is_part_name
two_locales = refl

-- the POSIX locale is no part
posix_part : made (source (codes "C") (codes "UTF-8") [] ∷ []) ≡ Err (0, BadName)
unfolding is_formed is_locale_name
posix_part = refl

-- a charset is a charmap of any part; where there is none, the first source is told
no_charmap : made (source (codes "a") (codes "X") lent ∷ source (codes "b") (codes "Y") lent ∷ charmap (codes "X") [] ∷ []) ≡ Err (1, NoCharmap)
unfolding is_formed is_locale_name is_charmap_name
no_charmap = refl

-- names come before charsets
names_first : made (source (codes "a") (codes "Y") lent ∷ charmap (codes "UTF-8") [] ∷ []) ≡ Err (1, BadName)
unfolding is_formed is_locale_name is_charmap_name
names_first = refl

abbrev book : List ℕ → List ℕ → List ℕ → NamedBook
book name locale text = record { name = name; locale = locale; book = record { set = 1; number = 1; text = text } ∷ [] }

-- of two catalogs of a name for a locale the last is found
number-last : number_of (codes "m") (codes "a") (book (codes "m") (codes "a") [] ∷ book (codes "m") (codes "b") [] ∷ book (codes "m") (codes "a") (codes "x") ∷ []) ≡ Some 2
number-last = refl

message-second : message_at (book (codes "m") (codes "a") [] ∷ book (codes "m") (codes "a") (codes "x") ∷ []) 1 1 1 ≡ Some (codes "x")
message-second = refl
