-- What a library of compiled locales says, as data.
use Rattle.std.specs.Prelude.{ℕ, List, Option}
use Rattle.category_store.specs.Locale.{Locale}

-- a library
pub record LibraryData : Type 0 where
  -- the compiled locales and later versions, by place: the i-th has the number i
  pub locales : List Locale
  -- the names of locales, each with its number
  pub names : List (List ℕ × ℕ)
  -- the names that a locale has at first, each with the number of that compiled locale
  pub first : List (List ℕ × ℕ)
  -- the keys of later versions, each with the number of the compiled one
  pub keys : List (List ℕ × ℕ)
  -- the number of the native locale's name, if the library names one
  pub native : Option ℕ
