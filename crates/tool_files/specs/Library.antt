-- What files give: their compiled locales (our own).
use Rattle.std.specs.Prelude.{Bool, ◌&&◌, nat_lt, nat_le, List, [], ◌∷◌, length, None, Ok, Err, if◌then◌else◌}
use Rattle.std.specs.List.{list_all}
use Rattle.lc_base.specs.declared.block.Block.{Block}
use Rattle.lc_base.specs.declared.place.Place.{Place}
use Rattle.lc_base.specs.declared.reason.Reason.{Reason}
use Rattle.lc_base.specs.declared.reason.Reason.TheVariants.{OverLimit}
use Rattle.lc_base.specs.declared.reason.Limit.TheVariants.{Locales}
use Rattle.lc_base.specs.Reading.{Reads}
use Rattle.charset.specs.CodedSet.{CodedSet, utf8, posix}
use Rattle.charmap_reader.specs.Charmap.{charmap}
use Rattle.category_store.specs.LibraryData.{LibraryData}
use Rattle.category_store.specs.Library.{catalog}

-- whether the text and the number of the first line of a block are below 2 to the power of 31
abbrev pub is_sized : Block → Bool
is_sized block = nat_lt (length block.text) 2147483648 && nat_lt block.first_line 2147483648

-- whether readers take so many locales, and blocks of these sizes
abbrev pub are_taken : List Block → List Block → Bool
are_taken charmaps locales = nat_le (length locales) 64 && list_all is_sized charmaps && list_all is_sized locales

-- the fault of blocks that are more, or larger
abbrev pub too_many : Place × Reason
too_many = (record { line = 1; column = 1 }, OverLimit Locales)

-- the library of the locales in these blocks, or its first fault
abbrev pub library : List Block → List Block → Reads LibraryData
library charmaps locales = if are_taken charmaps locales then catalog charmaps locales [] None else Err too_many

-- the charset of the first charmap, or its first fault; without a charmap UTF-8, and that of the POSIX locale where there is no
-- locale
abbrev pub charset_of : List Block → List Block → Reads CodedSet
charset_of (block ∷ blocks) locales = if is_sized block then charmap block.name block.text block.first_line else Err too_many
charset_of [] [] = Ok posix
charset_of [] (locale ∷ locales) = Ok utf8
