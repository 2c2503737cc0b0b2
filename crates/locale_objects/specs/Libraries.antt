-- Libraries that are read, built and joined, each behind a pointer of the caller (our own).
use Rattle.std.specs.Prelude.{◌≡◌, ◌⊎◌, ℕ, zero, suc, List, [], ◌∷◌, ◌++◌, Option, Some, None}
use Rattle.lc_base.specs.Reading.{Reads}
use Rattle.library_parts.specs.declared.part.LibraryPart.{LibraryPart}
use Rattle.library_parts.specs.declared.part.PartKind.{PartKind}
use Rattle.library_parts.specs.declared.part.PartKind.TheVariants.{Charmap, Source, Catalog}
use Rattle.library_parts.specs.Told.{Tells}
use Rattle.shared_objects.specs.Parts.{part_of}
use Rattle.shared_objects.specs.Shared.{MarkedLibraryData}
use Rattle.c_values.specs.declared.answer.LobjAnswer.{LobjAnswer}
use Rattle.c_values.specs.Codes.{OK, NO_MEMORY, NO_ITEM, TOO_MANY}
use Rattle.c_values.specs.declared.fault.LobjFault.{LobjFault}
use Rattle.c_values.specs.Answers.{answered}
use Rattle.c_values.specs.Faults.{IsRead, IsBuilt}

-- out of memory, and all is as it was: of the answer, what is behind the pointer, the fault and the buffer, each before and after
abbrev pub IsLeft : LobjAnswer → Option MarkedLibraryData → Option MarkedLibraryData → LobjFault → LobjFault → List ℕ → List ℕ → Type 0
IsLeft a held held' fault fault' old new = (a ≡ answered NO_MEMORY 0) × (held' ≡ held) × (fault' ≡ fault) × (new ≡ old)

-- a library is read, or its first fault told; or it is out of memory
abbrev pub IsReadUnlessMemory : List ℕ → Reads MarkedLibraryData → LobjAnswer → Option MarkedLibraryData → Option MarkedLibraryData → LobjFault → LobjFault → List ℕ → List ℕ → Type 0
IsReadUnlessMemory text wanted a held held' fault fault' old new =
    IsRead text wanted a held held' fault fault' old new ⊎ IsLeft a held held' fault fault' old new

-- a library is built, or the first fault of its parts told; or it is out of memory
abbrev pub IsBuiltUnlessMemory : List LibraryPart → Tells MarkedLibraryData → LobjAnswer → Option MarkedLibraryData → Option MarkedLibraryData → LobjFault → LobjFault → List ℕ → List ℕ → Type 0
IsBuiltUnlessMemory parts wanted a held held' fault fault' old new =
    IsBuilt parts wanted a held held' fault fault' old new ⊎ IsLeft a held held' fault fault' old new

-- two libraries are joined, if one may have so many locales and catalogs
abbrev pub IsJoined : Option MarkedLibraryData → LobjAnswer → Option MarkedLibraryData → Option MarkedLibraryData → Type 0
IsJoined (Some marked) a held held' = (a ≡ answered OK 0) × (held' ≡ Some marked)
IsJoined None a held held' = (a ≡ answered TOO_MANY 0) × (held' ≡ held)

-- the same; or it is out of memory, and all is as it was
abbrev pub IsJoinedUnlessMemory : Option MarkedLibraryData → LobjAnswer → Option MarkedLibraryData → Option MarkedLibraryData → Type 0
IsJoinedUnlessMemory wanted a held held' = IsJoined wanted a held held' ⊎ (a ≡ answered NO_MEMORY 0) × (held' ≡ held)

-- a builder without parts is made; or it is out of memory, and all is as it was
abbrev pub IsBegun : LobjAnswer → Option (List LibraryPart) → Option (List LibraryPart) → Type 0
IsBegun a held held' = (a ≡ answered OK 0) × (held' ≡ Some []) ⊎ (a ≡ answered NO_MEMORY 0) × (held' ≡ held)

-- the kind of parts with a number
abbrev pub kind_of : ℕ → Option PartKind
kind_of zero = Some Charmap
kind_of (suc zero) = Some Source
kind_of (suc (suc zero)) = Some Catalog
kind_of (suc (suc (suc n))) = None

-- a part is added behind the others, if its kind is one; or it is out of memory. Else they are as they were
abbrev pub IsAdded : Option PartKind → List ℕ → List ℕ → List ℕ → LobjAnswer → List LibraryPart → List LibraryPart → Type 0
IsAdded None name label text a parts parts' = (a ≡ answered NO_ITEM 0) × (parts' ≡ parts)
IsAdded (Some kind) name label text a parts parts' =
    (a ≡ answered OK 0) × (parts' ≡ parts ++ part_of kind name label text ∷ []) ⊎ (a ≡ answered NO_MEMORY 0) × (parts' ≡ parts)

-- the same of what is behind a pointer
abbrev pub IsAddedBehind : Option PartKind → List ℕ → List ℕ → List ℕ → LobjAnswer → Option (List LibraryPart) → Option (List LibraryPart) → Type 0
IsAddedBehind kind name label text a None held' = Unit {0}
IsAddedBehind kind name label text a (Some parts) None = ⊥
IsAddedBehind kind name label text a (Some parts) (Some parts') = IsAdded kind name label text a parts parts'
