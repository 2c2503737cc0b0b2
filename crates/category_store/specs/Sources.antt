-- The charmaps and the locale sources of a bundle, read in order, up to the first fault in them.
use Rattle.std.specs.Prelude.{List, [], ◌∷◌, codes, unwrap_or, Ok, if◌then◌else◌}
use Rattle.std.specs.Str.{bytes_eq}
use Rattle.lc_base.specs.declared.block.Block.{Block}
use Rattle.lc_base.specs.Reading.{Reads, ◌>>=◌}
use Rattle.lc_base.specs.Tables.{first_named}
use Rattle.charset.specs.Portable.{Name}
use Rattle.charset.specs.CodedSet.{CodedSet, utf8, posix}
use Rattle.charmap_reader.specs.Charmap.{charmap}
use Rattle.locale_reader.specs.Source.{source}
use Rattle.lc_base.specs.Named.{with_named}
use Rattle.locale_sources.specs.Sources.{Source}
use Rattle.category_store.specs.Blocks.{Placed}

-- the charsets of charmaps under their names
abbrev pub charsets_after : List (Name × CodedSet) → List Block → Reads (List (Name × CodedSet))
charsets_after sets [] = Ok sets
charsets_after sets (b ∷ bs) = charmap b.name b.text b.first_line >>= λ set. charsets_after (with_named sets b.name set) bs

abbrev pub charsets : List Block → Reads (List (Name × CodedSet))
charsets blocks = charsets_after [] blocks

-- the charset with a name: a built-in one, or that of a charmap. A bundle in which it is neither is refused before
abbrev pub charset_named : List (Name × CodedSet) → Name → CodedSet
charset_named sets name =
    if bytes_eq name (codes "UTF-8") then utf8 else
    if bytes_eq name (codes "POSIX") then posix else
    unwrap_or (first_named sets name) posix

-- the source of a block
abbrev pub source_of : List (Name × CodedSet) → Placed → Reads Source
source_of sets p =
    let set = charset_named sets p.block.charset in
    source p.block.text p.block.first_line set >>= λ read. Ok (record { key = p.key; name = p.block.name; charset = set; sections = read.sections })

-- the sources of blocks
abbrev pub sources_of : List (Name × CodedSet) → List Placed → Reads (List Source)
sources_of sets [] = Ok []
sources_of sets (p ∷ ps) = source_of sets p >>= λ s. sources_of sets ps >>= λ ss. Ok (s ∷ ss)
