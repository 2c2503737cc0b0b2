-- Libraries that are made of parts (our own).
use Rattle.std.specs.Prelude.{ℕ, List, Ok}
use Rattle.lc_base.specs.Reading.{◌>>=◌}
use Rattle.library_parts.specs.declared.part.LibraryPart.{LibraryPart}
use Rattle.library_parts.specs.declared.part.PartKind.{PartKind}
use Rattle.library_parts.specs.Made.{made}
use Rattle.library_parts.specs.Told.{Tells}
use Rattle.shared_objects.specs.Marks.{mark_of}
use Rattle.shared_objects.specs.Marks.Origin.{OfParts}
use Rattle.shared_objects.specs.Shared.{MarkedLibraryData}

-- a part of this kind
abbrev pub part_of : PartKind → List ℕ → List ℕ → List ℕ → LibraryPart
part_of kind name label text = record { kind = kind; name = name; label = label; text = text }

-- the library of parts, or the first fault of them
abbrev pub marked_built : List LibraryPart → Tells MarkedLibraryData
marked_built ps = made ps >>= λ m. Ok (record { library = m.library; books = m.books; mark = mark_of (OfParts ps) })
