-- Worked examples of two libraries as one.
use Rattle.std.specs.Prelude.{◌≡◌, ℕ, List, [], ◌∷◌, codes, Some, None, Ok, refl}
use Rattle.category_store.specs.Locale.{Locale, posix_locale}
use Rattle.category_store.specs.LibraryData.{LibraryData}
use Rattle.category_store.specs.Library.{numbers}
use Rattle.category_store.specs.Joined.{joined, locale_named}

-- a locale that has these categories
abbrev locale : List ℕ → ℕ → Locale
locale name mask = record posix_locale { name = name; available = mask }

-- a and b, with a version of b; a is native
abbrev system : LibraryData
system = record {
  locales = locale (codes "a") 31 ∷ locale (codes "b") 1 ∷ locale (codes "b") 3 ∷ [];
  names = (codes "a", 1) ∷ (codes "b", 2) ∷ [];
  first = (codes "a", 1) ∷ (codes "b", 2) ∷ [];
  keys = (codes "k", 3) ∷ [];
  native = Some 1;
}

-- c and another b; c is native
abbrev own : LibraryData
own = record {
  locales = locale (codes "c") 31 ∷ locale (codes "b") 7 ∷ [];
  names = (codes "c", 1) ∷ (codes "b", 2) ∷ [];
  first = (codes "c", 1) ∷ (codes "b", 2) ∷ [];
  keys = [];
  native = Some 1;
}

-- c has a number behind those of a and b; b is the one of the later library
joined-names : joined system own ≡ record {
  locales = locale (codes "a") 31 ∷ locale (codes "b") 1 ∷ locale (codes "b") 3 ∷ locale (codes "c") 31 ∷ locale (codes "b") 7 ∷ [];
  names = (codes "a", 1) ∷ (codes "b", 2) ∷ (codes "c", 3) ∷ [];
  first = (codes "c", 4) ∷ (codes "b", 5) ∷ (codes "a", 1) ∷ [];
  keys = (codes "k", 3) ∷ [];
  native = Some 3;
}
joined-names = refl

-- the native locale of the earlier library, where the later has none
joined-native : (joined system (record own { native = None })).native ≡ Some 1
joined-native = refl

-- the POSIX locale, where the later library names it
joined-posix : (joined system (record own { native = Some 0 })).native ≡ Some 0
joined-posix = refl

numbers-joined : numbers (joined system own) (codes "c") 2 ≡ Ok (0 ∷ 3 ∷ 0 ∷ 0 ∷ 0 ∷ [])
numbers-joined = refl

named-both : locale_named (joined system own) (codes "b") ≡ Some (locale (codes "b") 7)
named-both = refl

named-earlier : locale_named (joined own system) (codes "b") ≡ Some (locale (codes "b") 1)
named-earlier = refl

-- nothing is lost or added by a library that has nothing
joined-empty : joined system (record { locales = []; names = []; first = []; keys = []; native = None }) ≡ system
joined-empty = refl
