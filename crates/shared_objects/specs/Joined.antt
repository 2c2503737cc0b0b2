-- Two libraries as one (our own).
use Rattle.std.specs.Prelude.{◌≡◌, ℕ, ◌+◌, nat_le, Bool, ◌&&◌, ◌++◌, length, Option, Some, None, Result, Ok, Err, if◌then◌else◌}
use Rattle.category_store.specs.Joined as libraries
use Rattle.library_parts.specs.Limits.{PART_LIMIT}
use Rattle.shared_objects.specs.declared.fault.JoinFault.{JoinFault}
use Rattle.shared_objects.specs.declared.fault.JoinFault.TheVariants.{TooMany, Memory}
use Rattle.shared_objects.specs.Shared.{MarkedLibraryData}
use Rattle.shared_objects.specs.Marks.{mark_of}
use Rattle.shared_objects.specs.Marks.Origin.{OfLibraries}

-- whether two libraries together have no more locales and catalogs than one may have
abbrev pub has_room : MarkedLibraryData → MarkedLibraryData → Bool
has_room first second =
    nat_le (length first.library.locales + length second.library.locales) PART_LIMIT && nat_le (length first.books + length second.books) PART_LIMIT

-- a library, and behind it another, whose meaning of a name of both holds
abbrev pub both : MarkedLibraryData → MarkedLibraryData → MarkedLibraryData
both first second = record {
  library = libraries.joined first.library second.library;
  books = first.books ++ second.books;
  mark = mark_of (OfLibraries first.mark second.mark);
}

-- the same, if one library may have so many
abbrev pub joined : MarkedLibraryData → MarkedLibraryData → Option MarkedLibraryData
joined first second = if has_room first second then Some (both first second) else None

-- two libraries are joined, or have too many together; or it is out of memory, which says nothing
abbrev pub Joins : Result MarkedLibraryData JoinFault → MarkedLibraryData → MarkedLibraryData → Type 0
Joins (Ok marked) first second = joined first second ≡ Some marked
Joins (Err TooMany) first second = joined first second ≡ None
Joins (Err Memory) first second = Unit {0}
