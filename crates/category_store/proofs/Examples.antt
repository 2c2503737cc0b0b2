-- Worked examples of what names and keys stand for.
use Rattle.std.specs.Prelude.{◌≡◌, ℕ, ◌+◌, List, [], ◌∷◌, codes, Option, Some, None, Ok, Err, refl}
use Rattle.lc_base.specs.declared.place.Place.{Place}
use Rattle.lc_base.specs.declared.category.Category.{Category}
use Rattle.lc_base.specs.declared.category.Category.TheVariants.{Numeric, Time}
use Rattle.lc_base.specs.declared.reason.Reason.TheVariants.{CopyMissing}
use Rattle.mask_compose.specs.Offer.{no_offer}
use Rattle.charset.specs.CodedSet.{utf8}
use Rattle.keywords.specs.declared.source.Value.TheVariants.{Text}
use Rattle.keywords.specs.declared.source.Section.{Section}
use Rattle.keywords.specs.declared.source.Body.TheVariants.{Copy, Entries}
use Rattle.numeric_cat.specs.NumericValues.{NumericValues}
use Rattle.numeric_cat.specs.Numeric.{posix_values}
use Rattle.locale_sources.specs.Sources.{Source}
use Rattle.category_store.specs.Locale.{Locale, posix_locale}
use Rattle.category_store.specs.LibraryData.{LibraryData}
use Rattle.category_store.specs.Library.{names_of, keys_of, catalog_from, catalog_of, locale_at, numbers, opening, later, posix_object}

at : ℕ → ℕ → Place
at line column = record { line = line; column = column }

-- LC_NUMERIC at a line, with this decimal_point
numeric : ℕ → List ℕ → Section
numeric line radix = record {
  category = Numeric;
  place = at line 1;
  body = Entries (record { place = at (line + 1) 1; keyword = codes "decimal_point"; values = (at (line + 1) 15, Text radix) ∷ [] } ∷ []);
}

-- a section at a line that copies
copies : Category → ℕ → List ℕ → Section
copies category line name = record { category = category; place = at line 1; body = Copy (at (line + 1) 6) name }

locale : List ℕ → List Section → Source
locale name sections = record { key = None; name = name; charset = utf8; sections = sections }

version : List ℕ → List ℕ → List Section → Source
version key name sections = record { key = Some key; name = name; charset = utf8; sections = sections }

-- copies come before categories
copies_first : catalog_from None (locale (codes "a") (numeric 2 [] ∷ []) ∷ locale (codes "b") (copies Numeric 9 (codes "x") ∷ []) ∷ []) ≡ Err (at 10 6, CopyMissing)
unfolding at copies numeric locale
copies_first = refl

comma : NumericValues
comma = record posix_values { decimal_point = codes "," }

-- a compiled locale that has the POSIX locale's values in each other category
abbrev with_numeric : List ℕ → ℕ → NumericValues → Locale
with_numeric name mask values = record posix_locale { name = name; available = mask; numeric = values }

-- ---- names, numbers and offers

-- two later versions of one locale, one of a new name, and a locale of a later version's name
abbrev four : List Source
four = version (codes "k") (codes "b") [] ∷ locale (codes "a") (numeric 9 (codes ",") ∷ []) ∷ locale (codes "b") (numeric 16 (codes ":") ∷ []) ∷ version (codes "l") (codes "c") (numeric 23 (codes ";") ∷ []) ∷ []

names_of-four : names_of four ≡ (codes "b", 1) ∷ (codes "a", 2) ∷ (codes "c", 3) ∷ []
unfolding at numeric locale version
names_of-four = refl

keys_of-four : keys_of four ≡ (codes "k", 1) ∷ (codes "l", 4) ∷ []
unfolding at numeric locale version
keys_of-four = refl

library : Option (List ℕ) → LibraryData
library native = catalog_of four native (
    with_numeric (codes "b") 0 posix_values ∷ with_numeric (codes "a") 2 comma ∷
    with_numeric (codes "b") 2 posix_values ∷ with_numeric (codes "c") 2 posix_values ∷ [])

locale_at-numbers : (locale_at (library None) 0).name ∷ (locale_at (library None) 2).name ∷ (locale_at (library None) 5).name ∷ [] ≡ codes "C" ∷ codes "a" ∷ codes "C" ∷ []
unfolding library
locale_at-numbers = refl

numbers-all : numbers (library None) (codes "a") 31 ≡ Ok (2 ∷ 2 ∷ 2 ∷ 2 ∷ 2 ∷ [])
unfolding library at numeric locale version
numbers-all = refl

-- a name that only a later version has is named by a block
numbers-later : numbers (library None) (codes "c") 2 ≡ Ok (0 ∷ 3 ∷ 0 ∷ 0 ∷ 0 ∷ [])
unfolding library at numeric locale version
numbers-later = refl

-- the first category of the mask is told
numbers-nowhere : numbers (library None) (codes "nowhere") 24 ≡ Err Time
unfolding library at numeric locale version
numbers-nowhere = refl

-- an empty mask needs no locale
numbers-empty_mask : numbers (library None) (codes "nowhere") 0 ≡ Ok (0 ∷ 0 ∷ 0 ∷ 0 ∷ 0 ∷ [])
unfolding library at numeric locale version
numbers-empty_mask = refl

-- an empty name is the native locale's, or else the POSIX locale's
numbers-native : numbers (library (Some (codes "a"))) [] 3 ≡ Ok (2 ∷ 2 ∷ 0 ∷ 0 ∷ 0 ∷ [])
unfolding library at numeric locale version
numbers-native = refl

numbers-no_native : numbers (library None) [] 31 ≡ Ok (0 ∷ 0 ∷ 0 ∷ 0 ∷ 0 ∷ [])
unfolding library at numeric locale version
numbers-no_native = refl

-- a mixed name gives each category its own part
numbers-mixed : numbers (library None) (codes "LC_CTYPE=C;LC_NUMERIC=a;LC_MONETARY=POSIX;LC_TIME=nowhere;LC_MESSAGES=b") 23 ≡ Ok (0 ∷ 2 ∷ 0 ∷ 0 ∷ 1 ∷ [])
unfolding library at numeric locale version
numbers-mixed = refl

numbers-mixed_nowhere : numbers (library None) (codes "LC_CTYPE=C;LC_NUMERIC=a;LC_MONETARY=POSIX;LC_TIME=nowhere;LC_MESSAGES=b") 31 ≡ Err Time
unfolding library at numeric locale version
numbers-mixed_nowhere = refl

-- b means its locale at first, though a later version stands before it; c offers nothing
opening-four : opening (library None) ≡
    record { object = posix_object; available = 31 } ∷ record { object = record posix_object { numeric = 3 }; available = 2 } ∷
    record { object = record posix_object { numeric = 2 }; available = 2 } ∷ no_offer ∷ []
unfolding library at numeric locale version
opening-four = refl

later-key : later (library None) (codes "l") ≡ Some (3, record { object = record posix_object { numeric = 4 }; available = 2 })
unfolding library at numeric locale version
later-key = refl

later-unknown : later (library None) (codes "a") ≡ None
unfolding library at numeric locale version
later-unknown = refl
