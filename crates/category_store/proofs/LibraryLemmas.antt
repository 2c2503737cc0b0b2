-- The library's parts together.
use Rattle.std.proofs.Common.{◌≡◌, ℕ, zero, suc, ◌+◌, ◌<◌, ◌≤◌, true, false, cond, List, [], ◌∷◌, ◌++◌, length, map, take, Option, Some, None, unwrap_or, Result, Ok, refl, sym, ◌∙◌, ap, arith, length-append, is_some}
use Rattle.std.specs.List.{slice_get}
use Rattle.lc_base.specs.declared.place.Place.{Place}
use Rattle.lc_base.specs.declared.reason.Reason.{Reason}
use Rattle.lc_base.specs.declared.fault.TextFault.{TextFault}
use Rattle.lc_base.specs.Reading.{Reads, ◌>>=◌, Gives}
use Rattle.lc_base.specs.Tables.{first_named}
use Rattle.charset.specs.Portable.{Name}
use Rattle.lc_base.specs.Named.{with_named}
use Rattle.mask_compose.specs.Offer.{Offered}
use Rattle.std.proofs.Math.Seq.{take-nil}
use Rattle.locale_sources.specs.Sources.{Source}
use Rattle.locale_sources.specs.Copies.{locale_numbers, copy_fault}
use Rattle.locale_sources.specs.Rows.{given_unless}
use Rattle.category_store.specs.Locale.{Locale}
use Rattle.category_store.specs.Compiled.{locales_of}
use Rattle.category_store.specs.LibraryData.{LibraryData}
use Rattle.category_store.specs.Library.{names_of, keys_of, native_number, catalog_of, unless_fault, catalog_from, offer_at, first_offer, name_at, opening}

-- ---- copies, and then categories

-- where the copies have no fault, the locales are those of the categories
pub categories_follow : {A L : Type 0} (view : L → List Locale) (result : Result L TextFault) (fault : Option (Place × Reason)) (x y : A) (locales : Reads (List Locale)) → given_unless fault x ≡ Ok y → Gives view result locales → Gives view result (unless_fault fault locales)
categories_follow view result None x y locales e gives = gives
categories_follow view result (Some fault) x y locales e gives = absurd cc

-- ---- the library of sources

abbrev catalog_with : List Locale → List (Name × ℕ) → List (Name × ℕ) → List (Name × ℕ) → Option ℕ → LibraryData
catalog_with locales names first keys native = record { locales = locales; names = names; first = first; keys = keys; native = native }

pub library_is : (S : List Source) (native : Option Name) (locales : List Locale) (names first keys : List (Name × ℕ)) (n : Option ℕ)
    → unless_fault (copy_fault S) (locales_of S) ≡ Ok locales → names ≡ names_of S → first ≡ locale_numbers S → keys ≡ keys_of S → n ≡ native_number names native
    → catalog_from native S ≡ Ok (record { locales = locales; names = names; first = first; keys = keys; native = n })
library_is S native locales names first keys n are_locales are_names are_first are_keys are_native =
    let number : native_number (names_of S) native ≡ n = ap (λ (ns : List (Name × ℕ)). native_number ns native) (sym are_names) ∙ sym are_native in
    ap (λ (r : Reads (List Locale)). r >>= λ ls. Ok (catalog_of S native ls)) are_locales
    ∙ (ap (λ (ns : List (Name × ℕ)). Ok (catalog_with locales ns (locale_numbers S) (keys_of S) (native_number (names_of S) native))) (sym are_names)
    ∙ (ap (λ (fs : List (Name × ℕ)). Ok (catalog_with locales names fs (keys_of S) (native_number (names_of S) native))) (sym are_first)
    ∙ (ap (λ (ks : List (Name × ℕ)). Ok (catalog_with locales names first ks (native_number (names_of S) native))) (sym are_keys)
    ∙ ap (λ (m : Option ℕ). Ok (catalog_with locales names first keys m)) number)))

-- ---- names

-- there is one name more at most
pub with_named-few : (ps : List (Name × ℕ)) (name : Name) (x : ℕ) → length (with_named ps name x) ≤ length ps + 1
with_named-few ps name x =
    let one = length-append ps ((name, x) ∷ []) in
    elim (is_some (first_named ps name)) as (λ b. length (cond b ps (ps ++ (name, x) ∷ [])) ≤ length ps + 1) [
      | true ↦ omega arith
      | false ↦ omega arith
    ]

-- ---- offers

map_more : {A B : Type 0} (f : A → B) (xs : List A) (i : ℕ) (d : A) → i < length xs → map f (take (i + 1) xs) ≡ map f (take i xs) ++ f (unwrap_or (slice_get xs i) d) ∷ []
map_more f [] i d h = absurd (omega arith)
map_more f (x ∷ xs) zero d h = refl
map_more {A} {B} f (x ∷ xs) (suc i) d h =
    let more : suc i + 1 ≡ suc (i + 1) = omega arith in
    ap (λ (n : ℕ). map f (take n (x ∷ xs))) more ∙ ap (λ (ys : List B). f x ∷ ys) (map_more f xs i d (omega arith))

-- one offer more
pub opening_more : (c : LibraryData) (i : ℕ) → i < length c.names → offer_at c 0 ∷ map (λ (entry : List ℕ × ℕ). first_offer c entry.0) (take (i + 1) c.names) ≡ (offer_at c 0 ∷ map (λ (entry : List ℕ × ℕ). first_offer c entry.0) (take i c.names)) ++ first_offer c (name_at c i) ∷ []
opening_more c i h = ap (λ (ys : List Offered). offer_at c 0 ∷ ys) (map_more (λ (entry : List ℕ × ℕ). first_offer c entry.0) c.names i ([], 0) h)

take_all : {A : Type 0} (i : ℕ) (xs : List A) → length xs ≤ i → take i xs ≡ xs
take_all i [] h = take-nil i
take_all zero (x ∷ xs) h = absurd (omega arith)
take_all {A} (suc i) (x ∷ xs) h = ap (λ (ys : List A). x ∷ ys) (take_all i xs (omega arith))

-- all offers are there
pub opening_all : (c : LibraryData) (i : ℕ) → length c.names ≤ i → offer_at c 0 ∷ map (λ (entry : List ℕ × ℕ). first_offer c entry.0) (take i c.names) ≡ opening c
opening_all c i h = ap (λ (es : List (List ℕ × ℕ)). offer_at c 0 ∷ map (λ (entry : List ℕ × ℕ). first_offer c entry.0) es) (take_all i c.names h)
