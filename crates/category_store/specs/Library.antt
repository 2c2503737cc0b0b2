-- The library of a bundle's compiled locales: what it is built from, and what it answers (XSH newlocale, setlocale).
use Rattle.std.specs.Prelude.{ℕ, ◌+◌, ◌==◌, List, [], ◌∷◌, length, map, replicate, slice_get, Option, Some, None, unwrap_or, option_map, Result, Ok, Err, if◌then◌else◌}
use Rattle.lc_base.specs.BuiltIn.{is_posix_locale}
use Rattle.lc_base.specs.declared.place.Place.{Place}
use Rattle.lc_base.specs.declared.category.Category.{Category}
use Rattle.lc_base.specs.declared.category.Category.TheVariants.{Ctype, Numeric, Monetary, Time, Messages}
use Rattle.lc_base.specs.declared.reason.Reason.{Reason}
use Rattle.lc_base.specs.declared.block.Block.{Block}
use Rattle.lc_base.specs.declared.block.Later.{Later}
use Rattle.lc_base.specs.Mask.{includes}
use Rattle.lc_base.specs.Reading.{Reads, ◌>>=◌}
use Rattle.lc_base.specs.Tables.{first_named}
use Rattle.charset.specs.Portable.{Name}
use Rattle.charset.specs.CodedSet.{CodedSet}
use Rattle.mask_compose.specs.Parts.{Parts}
use Rattle.mask_compose.specs.Offer.{Offered, no_offer}
use Rattle.lc_base.specs.Categories.{categories}
use Rattle.mask_compose.specs.Names.{mixed_parts}
use Rattle.lc_base.specs.Named.{with_named}
use Rattle.locale_sources.specs.Sources.{Source}
use Rattle.category_store.specs.Blocks.{by_place}
use Rattle.category_store.specs.Sources.{charsets, sources_of}
use Rattle.locale_sources.specs.Copies.{locale_numbers, copy_fault}
use Rattle.category_store.specs.Locale.{Locale, locale_among}
use Rattle.category_store.specs.Compiled.{locales_of}
use Rattle.category_store.specs.LibraryData.{LibraryData}

-- ---- what a bundle's blocks make

-- the names of sources with their numbers, in the order in which they first appear; the first new one has one more than the
-- last
abbrev pub names_after : List (Name × ℕ) → List Source → List (Name × ℕ)
names_after named [] = named
names_after named (s ∷ ss) = names_after (with_named named s.name (length named + 1)) ss

abbrev pub names_of : List Source → List (Name × ℕ)
names_of sources = names_after [] sources

-- the keys of the later versions among sources, with the numbers of their sources
abbrev pub keys_after : List (Name × ℕ) → ℕ → List Source → List (Name × ℕ)
keys_after named n [] = named
keys_after named n (s ∷ ss) = keys_after (elim s.key [ None ↦ named | Some key ↦ with_named named key n ]) (n + 1) ss

abbrev pub keys_of : List Source → List (Name × ℕ)
keys_of sources = keys_after [] 1 sources

-- the number of a plain name: 0 is the POSIX locale's
abbrev pub plain_number : List (Name × ℕ) → Name → Option ℕ
plain_number names name = if is_posix_locale name then Some 0 else first_named names name

-- the number of the native locale's name, if one is given
abbrev pub native_number : List (Name × ℕ) → Option Name → Option ℕ
native_number names native = option_map (λ name. unwrap_or (plain_number names name) 0) native

-- what sources make whose locales are compiled
abbrev pub catalog_of : List Source → Option Name → List Locale → LibraryData
catalog_of sources native locales = record {
  locales = locales;
  names = names_of sources;
  first = locale_numbers sources;
  keys = keys_of sources;
  native = native_number (names_of sources) native;
}

-- the locales of sources whose copies end
abbrev pub unless_fault : Option (Place × Reason) → Reads (List Locale) → Reads (List Locale)
unless_fault None locales = locales
unless_fault (Some fault) locales = Err fault

-- what sources make, or the first fault of their copies, or else of their categories
abbrev pub catalog_from : Option Name → List Source → Reads LibraryData
catalog_from native sources = unless_fault (copy_fault sources) (locales_of sources) >>= λ locales. Ok (catalog_of sources native locales)

-- the library of locales and later versions over charsets, or its first fault: sources in order of place come before copies, and
-- copies before categories
abbrev pub catalog_over : List (Name × CodedSet) → List Block → List Later → Option Name → Reads LibraryData
catalog_over sets locales later native = sources_of sets (by_place locales later) >>= catalog_from native

-- the library of a bundle with these charmaps, locales and later versions, or its first fault: charmaps in order come before
-- sources
abbrev pub catalog : List Block → List Block → List Later → Option Name → Reads LibraryData
catalog charmaps locales later native = charsets charmaps >>= λ sets. catalog_over sets locales later native

-- ---- what it answers

abbrev pub locale_at : LibraryData → ℕ → Locale
locale_at c n = locale_among c.locales n

-- the number of a name: an empty one is the native locale's, the POSIX locale's where none is named
abbrev pub number_of : LibraryData → Name → Option ℕ
number_of c name = if length name == 0 then Some (unwrap_or c.native 0) else plain_number c.names name

-- a category's number: 0 outside of the mask
abbrev pub number_in : LibraryData → ℕ → Category → Name → Result ℕ Category
number_in c mask category name = if includes mask category then (elim (number_of c name) [ None ↦ Err category | Some n ↦ Ok n ]) else Ok 0

-- the numbers of categories whose locales have these names, or the first category of the mask whose name no block has
infixl 10 ◌then◌
abbrev pub ◌then◌ : Result ℕ Category → Result (List ℕ) Category → Result (List ℕ) Category
(Ok n) then (Ok ns) = Ok (n ∷ ns)
(Ok n) then (Err category) = Err category
(Err category) then rest = Err category

abbrev pub numbers_in : LibraryData → ℕ → List Category → List Name → Result (List ℕ) Category
numbers_in c mask [] names = Ok []
numbers_in c mask (category ∷ cs) [] = Ok []
numbers_in c mask (category ∷ cs) (name ∷ names) = number_in c mask category name then numbers_in c mask cs names

-- the names that a name gives the five categories: the parts of a mixed one, or itself
abbrev pub names_given : Name → List Name
names_given name = unwrap_or (mixed_parts name) (replicate 5 name)

-- the numbers of the five categories under a name
abbrev pub numbers : LibraryData → Name → ℕ → Result (List ℕ) Category
numbers c name mask = numbers_in c mask categories (names_given name)

-- a number in the categories of a mask, the POSIX locale in the others
abbrev pub part_in_mask : ℕ → ℕ → Category → ℕ
part_in_mask mask n category = if includes mask category then n else 0

abbrev pub object_of : ℕ → ℕ → Parts
object_of mask n = record {
  ctype = part_in_mask mask n Ctype;
  numeric = part_in_mask mask n Numeric;
  monetary = part_in_mask mask n Monetary;
  time = part_in_mask mask n Time;
  messages = part_in_mask mask n Messages;
}

-- the POSIX object
abbrev pub posix_object : Parts
posix_object = object_of 0 0

-- what the compiled locale with a number offers: its categories
abbrev pub offer_at : LibraryData → ℕ → Offered
offer_at c n = let mask = (locale_at c n).available in record { object = object_of mask n; available = mask }

-- what a name offers at first: its locale, or nothing where only a later version has the name
abbrev pub first_offer : LibraryData → Name → Offered
first_offer c name = elim (first_named c.first name) [
  | None ↦ no_offer
  | Some n ↦ offer_at c n
]

-- the name with a place, from 0
abbrev pub name_at : LibraryData → ℕ → Name
name_at c i = (unwrap_or (slice_get c.names i) ([], 0)).0

-- what the names offer at first, by their numbers
abbrev pub opening : LibraryData → List Offered
opening c = offer_at c 0 ∷ map (λ (entry : Name × ℕ). first_offer c entry.0) c.names

-- what a key installs: the number of its name, and what it offers
abbrev pub later : LibraryData → Name → Option (ℕ × Offered)
later c key = option_map (λ n. (unwrap_or (first_named c.names (locale_at c n).name) 0, offer_at c n)) (first_named c.keys key)
