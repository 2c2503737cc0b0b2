-- A library that was read, and one of its objects with it, as data.
use Rattle.std.specs.Prelude.{ℕ, List}
use Rattle.mask_compose.specs.Parts.{Parts}
use Rattle.category_store.specs.LibraryData.{LibraryData}
use Rattle.library_parts.specs.declared.books.NamedBook.{NamedBook}

pub record Shared : Type 0 where
  pub library : LibraryData
  pub object : Parts

-- a library of compiled locales, its message catalogs, and the mark of what it was made of
pub record MarkedLibraryData : Type 0 where
  pub library : LibraryData
  pub books : List NamedBook
  pub mark : ℕ
