-- What is made of parts, or their first fault (our own).
use Rattle.std.specs.Prelude.{List, [], length, None, Ok}
use Rattle.lc_base.specs.Reading.{Reads, ◌>>=◌}
use Rattle.category_store.specs.Library.{catalog}
use Rattle.library_parts.specs.declared.blocks.Blocks.{Blocks}
use Rattle.library_parts.specs.declared.from_parts.Made.{Made}
use Rattle.library_parts.specs.declared.part.LibraryPart.{LibraryPart}
use Rattle.library_parts.specs.Books.{books_read}
use Rattle.library_parts.specs.Parts.{at_first, parts_seen, charsets_known}
use Rattle.library_parts.specs.Places.{befores, blocks_of_parts, told_of}
use Rattle.library_parts.specs.Told.{Tells}

-- what blocks make: the library of the charmaps and sources, and the catalogs
abbrev pub made_from : Blocks → Reads Made
made_from b =
    catalog b.charmaps b.sources [] None >>= λ library. books_read b.catalogs >>= λ books. Ok (record { library = library; books = books; locales = length b.sources })

-- what parts make: parts that are as they should be, and then charsets that are known, and then what their blocks make, each
-- fault told of the part that has it
abbrev pub made : List LibraryPart → Tells Made
made ps =
    parts_seen at_first 0 ps >>= λ seen. charsets_known seen.charmaps 0 ps >>= λ known. told_of (befores 0 ps) (made_from (blocks_of_parts ps))
