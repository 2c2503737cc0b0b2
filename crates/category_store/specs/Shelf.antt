-- The numbers of names, on the shelf of what a library offers at first (our own).
use Rattle.std.specs.Prelude.{ℕ, ◌<◌, ◌≤◌, List, length, IfOk, IfSome}
use Rattle.mask_compose.specs.Offer.{AreOnShelf}
use Rattle.category_store.specs.LibraryData.{LibraryData}
use Rattle.category_store.specs.Library.{numbers, opening, later}

-- the numbers that names give are on the shelf
abbrev pub IsNumbered : LibraryData → Type 0
IsNumbered library = (name : List ℕ) (mask : ℕ) → IfOk (numbers library name mask) (AreOnShelf (opening library))

-- what a key installs has a number of the shelf, which is not the POSIX locale's
abbrev pub IsInstallable : LibraryData → Type 0
IsInstallable library = (key : List ℕ) → IfSome (later library key) (λ version. (1 ≤ version.0) × (version.0 < length (opening library)))
