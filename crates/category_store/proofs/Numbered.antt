-- The names of a library have numbers that are on its shelf.
use Rattle.std.proofs.Common.{◌≡◌, ℕ, ◌+◌, ◌<◌, ◌≤◌, true, false, cond, List, [], ◌∷◌, ◌++◌, length, Option, Some, None, Result, Ok, Err, sym, subst, arith, length-append}
use Rattle.std.specs.Prelude.{IfSome, IfOk, is_some, unwrap_or, ◌==◌}
use Rattle.std.specs.List.{AllByRecursion}
use Rattle.std.specs.Str.{bytes_eq}
use Rattle.std.proofs.lemmas.List.{length-map}
use Rattle.std.proofs.lemmas.List.Elements.{All-from_recursion}
use Rattle.std.proofs.lemmas.Result.{IfOk-weaker}
use Rattle.lc_base.specs.BuiltIn.{is_posix_locale}
use Rattle.lc_base.specs.declared.category.Category.{Category}
use Rattle.lc_base.specs.Categories.{categories}
use Rattle.lc_base.specs.Mask.{includes}
use Rattle.lc_base.specs.Reading.{Reads}
use Rattle.lc_base.proofs.ReadingLemmas.{value_of}
use Rattle.mask_compose.specs.Offer.{AreOnShelf}
use Rattle.lc_base.specs.Tables.{first_named}
use Rattle.charset.specs.Portable.{Name}
use Rattle.lc_base.specs.Named.{with_named}
use Rattle.locale_sources.specs.Sources.{Source}
use Rattle.locale_sources.specs.Copies.{copy_fault}
use Rattle.category_store.specs.Locale.{Locale}
use Rattle.category_store.specs.Compiled.{locales_of}
use Rattle.category_store.specs.LibraryData.{LibraryData}
use Rattle.category_store.specs.Library.{names_after, names_of, plain_number, native_number, catalog_of, unless_fault, catalog_from, number_of, number_in, ◌then◌, numbers_in, names_given, numbers, first_offer, opening}
use Rattle.category_store.specs.Shelf.{IsNumbered}

-- each name has a number up to that of the names
abbrev pub AreUpTo : ℕ → List (Name × ℕ) → Type 0
AreUpTo m named = AllByRecursion (λ (e : Name × ℕ). e.1 ≤ m) named

abbrev pub AreCounted : List (Name × ℕ) → Type 0
AreCounted named = AreUpTo (length named) named

up_to_one_more : (m : ℕ) (name : Name) (named : List (Name × ℕ)) → AreUpTo m named → AreUpTo (m + 1) (named ++ (name, m + 1) ∷ [])
up_to_one_more m name [] up = (omega arith, tt)
up_to_one_more m name (e ∷ es) up = (let here = up.0 in omega arith, up_to_one_more m name es up.1)

one_more : (named : List (Name × ℕ)) (name : Name) → AreCounted named → AreCounted (named ++ (name, length named + 1) ∷ [])
one_more named name counted =
    subst (λ (m : ℕ). AreUpTo m (named ++ (name, length named + 1) ∷ [])) (sym (length-append named ((name, length named + 1) ∷ []))) (up_to_one_more (length named) name named counted)

pub with_one : (named : List (Name × ℕ)) (name : Name) → AreCounted named → AreCounted (with_named named name (length named + 1))
with_one named name counted =
    elim (is_some (first_named named name)) as (λ b. AreCounted (cond b named (named ++ (name, length named + 1) ∷ []))) [
      | true ↦ counted
      | false ↦ one_more named name counted
    ]

after_counted : (named : List (Name × ℕ)) (sources : List Source) → AreCounted named → AreCounted (names_after named sources)
after_counted named [] counted = counted
after_counted named (s ∷ ss) counted = after_counted (with_named named s.name (length named + 1)) ss (with_one named s.name counted)

-- so have the names of sources
pub names_counted : (sources : List Source) → AreUpTo (length (names_of sources)) (names_of sources)
names_counted sources = after_counted [] sources tt

-- what is found among names is up to what they all are
pub found_up_to : (m : ℕ) (es : List (Name × ℕ)) (name : Name) → AreUpTo m es → IfSome (first_named es name) (λ n. n ≤ m)
found_up_to m [] name counted = tt
found_up_to m (e ∷ es) name counted =
    elim (bytes_eq e.0 name) as (λ b. IfSome (cond b (Some e.1) (first_named es name)) (λ n. n ≤ m)) [
      | true ↦ counted.0
      | false ↦ found_up_to m es name counted.1
    ]

plain_up_to : (names : List (Name × ℕ)) (name : Name) → AreCounted names → IfSome (plain_number names name) (λ n. n ≤ length names)
plain_up_to names name counted =
    elim (is_posix_locale name) as (λ b. IfSome (cond b (Some 0) (first_named names name)) (λ n. n ≤ length names)) [
      | true ↦ omega arith
      | false ↦ found_up_to (length names) names name counted
    ]

pub or_zero : (m : ℕ) (o : Option ℕ) → IfSome o (λ n. n ≤ m) → unwrap_or o 0 ≤ m
or_zero m None up = omega arith
or_zero m (Some n) up = up

native_up_to : (names : List (Name × ℕ)) (native : Option Name) → AreCounted names → unwrap_or (native_number names native) 0 ≤ length names
native_up_to names None counted = omega arith
native_up_to names (Some name) counted = or_zero (length names) (plain_number names name) (plain_up_to names name counted)

-- the names of a library and its native locale have numbers up to that of the names
pub record IsCounted (c : LibraryData) : Type 0 where
  pub names : AreCounted c.names
  pub native : unwrap_or c.native 0 ≤ length c.names

sources_counted : (sources : List Source) (native : Option Name) (locales : List Locale) → IsCounted (catalog_of sources native locales)
sources_counted sources native locales =
    let counted : AreCounted (names_of sources) = after_counted [] sources tt in
    record { names = counted; native = native_up_to (names_of sources) native counted }

abbrev read : LibraryData → Reads LibraryData
read c = Ok c

ok_is : (x y : LibraryData) → read x ≡ read y → x ≡ y
ok_is x y e = cc

catalog_counted : (native : Option Name) (sources : List Source) (c : LibraryData) → catalog_from native sources ≡ Ok c → IsCounted c
catalog_counted native sources c e =
    let made = value_of (unless_fault (copy_fault sources) (locales_of sources)) (λ made. Ok (catalog_of sources native made)) c e in
    subst IsCounted (ok_is (catalog_of sources native made.0) c made.2) (sources_counted sources native made.0)

-- ---- the numbers of a name

number_up_to : (c : LibraryData) (name : Name) → IsCounted c → IfSome (number_of c name) (λ n. n ≤ length c.names)
number_up_to c name counted =
    elim (length name == 0) as (λ b. IfSome (cond b (Some (unwrap_or c.native 0)) (plain_number c.names name)) (λ n. n ≤ length c.names)) [
      | true ↦ counted.native
      | false ↦ plain_up_to c.names name counted.names
    ]

shelf_length : (c : LibraryData) → length (opening c) ≡ length c.names + 1
shelf_length c = let mapped = length-map c.names (λ (entry : Name × ℕ). first_offer c entry.0) in omega arith

abbrev or_category : Category → Option ℕ → Result ℕ Category
or_category category o = elim o [ None ↦ Err category | Some n ↦ Ok n ]

or_category_up_to : (m : ℕ) (category : Category) (o : Option ℕ) → IfSome o (λ n. n ≤ m) → IfOk (or_category category o) (λ n. n ≤ m)
or_category_up_to m category None up = tt
or_category_up_to m category (Some n) up = up

in_up_to : (c : LibraryData) (mask : ℕ) (category : Category) (name : Name) → IsCounted c → IfOk (number_in c mask category name) (λ n. n ≤ length c.names)
in_up_to c mask category name counted =
    elim (includes mask category) as (λ b. IfOk (cond b (or_category category (number_of c name)) (Ok 0)) (λ n. n ≤ length c.names)) [
      | true ↦ or_category_up_to (length c.names) category (number_of c name) (number_up_to c name counted)
      | false ↦ omega arith
    ]

abbrev OnShelf : LibraryData → List ℕ → Type 0
OnShelf c ns = AllByRecursion (λ n. n < length (opening c)) ns

joined : (c : LibraryData) (r : Result ℕ Category) (rest : Result (List ℕ) Category) → IfOk r (λ n. n ≤ length c.names) → IfOk rest (OnShelf c) → IfOk (r then rest) (OnShelf c)
joined c (Ok n) (Ok ns) up shelf = (let long = shelf_length c in omega arith, shelf)
joined c (Ok n) (Err e) up shelf = tt
joined c (Err e) rest up shelf = tt

each_on_shelf : (c : LibraryData) (mask : ℕ) (cs : List Category) (names : List Name) → IsCounted c → IfOk (numbers_in c mask cs names) (OnShelf c)
each_on_shelf c mask [] names counted = tt
each_on_shelf c mask (category ∷ cs) [] counted = tt
each_on_shelf c mask (category ∷ cs) (name ∷ names) counted = joined c (number_in c mask category name) (numbers_in c mask cs names) (in_up_to c mask category name counted) (each_on_shelf c mask cs names counted)

-- where the names are counted they are numbered
pub numbered_counted : (c : LibraryData) → IsCounted c → IsNumbered c
numbered_counted c counted = λ name mask.
    IfOk-weaker (numbers c name mask) (OnShelf c) (AreOnShelf (opening c)) (λ ns on. All-from_recursion _ ns on) (each_on_shelf c mask categories (names_given name) counted)

-- the names of the library of sources are numbered
pub is_numbered : (native : Option Name) (sources : List Source) (c : LibraryData) → catalog_from native sources ≡ Ok c → IsNumbered c
is_numbered native sources c e = numbered_counted c (catalog_counted native sources c e)
