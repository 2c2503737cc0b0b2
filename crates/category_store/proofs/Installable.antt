-- What a key installs has a number of the library's shelf that is not the POSIX locale's.
use Rattle.std.proofs.Common.{◌≡◌, ℕ, zero, suc, ◌+◌, ◌<◌, ◌≤◌, Bool, true, false, cond, List, [], ◌∷◌, ◌++◌, length, Option, Some, None, Ok, Err, refl, sym, ap, subst, arith}
use Rattle.std.specs.Prelude.{IfSome, IfOk, is_some, unwrap_or, option_map}
use Rattle.std.specs.List.{AllByRecursion}
use Rattle.std.specs.Str.{bytes_eq}
use Rattle.std.proofs.lemmas.List.{length-map}
use Rattle.std.proofs.lemmas.Slice.Eq.{bytes_eq-Decides}
use Rattle.lc_base.specs.declared.category.Category.TheVariants.{Ctype, Numeric, Monetary, Time, Messages}
use Rattle.lc_base.specs.declared.place.Place.{Place}
use Rattle.lc_base.specs.declared.reason.Reason.{Reason}
use Rattle.lc_base.specs.Reading.{Reads, ◌>>=◌}
use Rattle.lc_base.proofs.ReadingLemmas.{value_of}
use Rattle.lc_base.specs.Tables.{first_named}
use Rattle.charset.specs.Portable.{Name}
use Rattle.mask_compose.specs.Offer.{Offered}
use Rattle.ctype_classes.specs.Ctype.{posix_values as posix_classes}
use Rattle.numeric_cat.specs.Numeric.{posix_values}
use Rattle.monetary_cat.specs.Monetary.{posix_values as posix_money}
use Rattle.time_cat.specs.Values.{posix_values as posix_times}
use Rattle.messages_cat.specs.Messages.{posix_values as posix_messages}
use Rattle.lc_base.specs.Named.{with_named}
use Rattle.locale_sources.specs.Sources.{Source}
use Rattle.locale_sources.specs.Copies.{copy_fault}
use Rattle.locale_sources.specs.Rows.{available}
use Rattle.category_store.specs.Locale.{Locale, locale_among}
use Rattle.category_store.specs.Compiled.{ctype_of, numeric_of, monetary_of, time_of, messages_of, category_of, locale_of, locales_from, locales_of}
use Rattle.category_store.specs.LibraryData.{LibraryData}
use Rattle.category_store.specs.Library.{names_after, names_of, keys_after, keys_of, catalog_of, unless_fault, catalog_from, locale_at, offer_at, first_offer, opening}
use Rattle.category_store.specs.Shelf.{IsInstallable}
use Rattle.category_store.proofs.Numbered.{names_counted}

-- ---- numbers of names begin at 1

abbrev AreFrom : ℕ → List (Name × ℕ) → Type 0
AreFrom least named = AllByRecursion (λ (e : Name × ℕ). least ≤ e.1) named

abbrev AreUpTo : ℕ → List (Name × ℕ) → Type 0
AreUpTo most named = AllByRecursion (λ (e : Name × ℕ). e.1 ≤ most) named

from_one_more : (least n : ℕ) (name : Name) (named : List (Name × ℕ)) → least ≤ n → AreFrom least named → AreFrom least (named ++ (name, n) ∷ [])
from_one_more least n name [] le from = (le, tt)
from_one_more least n name (e ∷ es) le from = (from.0, from_one_more least n name es le from.1)

-- what holds with one more name and without it holds of the names with it
pub with_either : (P : List (Name × ℕ) → Type 0) (named : List (Name × ℕ)) (name : Name) (n : ℕ) → P named → P (named ++ (name, n) ∷ []) → P (with_named named name n)
with_either P named name n kept added = elim (is_some (first_named named name)) as (λ b. P (cond b named (named ++ (name, n) ∷ []))) [ true ↦ kept | false ↦ added ]

names_from : (named : List (Name × ℕ)) (ss : List Source) → AreFrom 1 named → AreFrom 1 (names_after named ss)
names_from named [] from = from
names_from named (s ∷ ss) from =
    names_from (with_named named s.name (length named + 1)) ss
    (with_either (AreFrom 1) named s.name (length named + 1) from (from_one_more 1 (length named + 1) s.name named (omega arith) from))

-- ---- each source's name is found

abbrev IsFound : List (Name × ℕ) → Name → Type 0
IsFound named name = is_some (first_named named name) ≡ true

found_more : (named : List (Name × ℕ)) (other name : Name) (n : ℕ) → IsFound named name → IsFound (named ++ (other, n) ∷ []) name
found_more [] other name n found = absurd (cc found)
found_more (e ∷ es) other name n found =
    (elim (bytes_eq e.0 name) as (λ b. is_some (cond b (Some e.1) (first_named es name)) ≡ true → is_some (cond b (Some e.1) (first_named (es ++ (other, n) ∷ []) name)) ≡ true) [
      | true ↦ λ f. f
      | false ↦ λ f. found_more es other name n f
    ]) found

found_last : (named : List (Name × ℕ)) (name : Name) (n : ℕ) → IsFound (named ++ (name, n) ∷ []) name
found_last [] name n = ap (λ (b : Bool). is_some (cond b (Some n) None)) ((bytes_eq-Decides name name).1 refl)
found_last (e ∷ es) name n =
    elim (bytes_eq e.0 name) as (λ b. is_some (cond b (Some e.1) (first_named (es ++ (name, n) ∷ []) name)) ≡ true) [ true ↦ refl | false ↦ found_last es name n ]

found_here : (named : List (Name × ℕ)) (name : Name) (n : ℕ) → IsFound (with_named named name n) name
found_here named name n =
    (elim (is_some (first_named named name)) as (λ b. is_some (first_named named name) ≡ b → IsFound (cond b named (named ++ (name, n) ∷ [])) name) [
      | true ↦ λ e. e
      | false ↦ λ e. found_last named name n
    ]) refl

found_after : (named : List (Name × ℕ)) (ss : List Source) (name : Name) → IsFound named name → IsFound (names_after named ss) name
found_after named [] name found = found
found_after named (s ∷ ss) name found =
    found_after (with_named named s.name (length named + 1)) ss name
    (with_either (λ (es : List (Name × ℕ)). IsFound es name) named s.name (length named + 1) found (found_more named s.name name (length named + 1) found))

all_found : (named : List (Name × ℕ)) (ss : List Source) → AllByRecursion (λ (s : Source). IsFound (names_after named ss) s.name) ss
all_found named [] = tt
all_found named (s ∷ ss) =
    let more : List (Name × ℕ) = with_named named s.name (length named + 1) in
    (found_after more ss s.name (found_here named s.name (length named + 1)), all_found more ss)

-- ---- locales have the names of their sources

-- what holds of what is read, whatever the first part of it is
through : {A B : Type 0} (P : B → Type 0) (r : Reads A) (f : A → Reads B) → ((a : A) → r ≡ Ok a → IfOk (f a) P) → IfOk (r >>= f) P
through P (Ok a) f h = h a refl
through P (Err e) f h = tt

ok_at : {A : Type 0} (P : A → Type 0) (r : Reads A) (a : A) → r ≡ Ok a → IfOk r P → P a
ok_at P r a e h = subst (λ (x : Reads _). IfOk x P) e h

-- what holds of all that five parts make, whatever the parts are, holds of what is read
of_five : {A B C D E F : Type 0} (P : F → Type 0) (a : Reads A) (b : Reads B) (c : Reads C) (d : Reads D) (e : Reads E) (make : A → B → C → D → E → F)
    → ((u : A) (v : B) (w : C) (x : D) (y : E) → P (make u v w x y))
    → IfOk (a >>= λ u. b >>= λ v. c >>= λ w. d >>= λ x. e >>= λ y. Ok (make u v w x y)) P
of_five P (Ok u) (Ok v) (Ok w) (Ok x) (Ok y) make is = is u v w x y
of_five P (Ok u) (Ok v) (Ok w) (Ok x) (Err fault) make is = tt
of_five P (Ok u) (Ok v) (Ok w) (Err fault) e make is = tt
of_five P (Ok u) (Ok v) (Err fault) d e make is = tt
of_five P (Ok u) (Err fault) c d e make is = tt
of_five P (Err fault) b c d e make is = tt

locale_named : (sources : List Source) (n : ℕ) (s : Source) → IfOk (locale_of sources n s) (λ (l : Locale). l.name ≡ s.name)
locale_named sources n s =
    of_five (λ (l : Locale). l.name ≡ s.name) (category_of posix_classes ctype_of sources Ctype n) (category_of posix_values numeric_of sources Numeric n)
    (category_of posix_money monetary_of sources Monetary n) (category_of posix_times time_of sources Time n) (category_of posix_messages messages_of sources Messages n)
    (λ ctype numeric monetary time messages. record { name = s.name; available = available sources n; ctype = ctype; numeric = numeric; monetary = monetary; time = time; messages = messages })
    (λ ctype numeric monetary time messages. refl)

abbrev AreNamed : (Name → Type 0) → ℕ → List Locale → Type 0
AreNamed P n ls = AllByRecursion (λ (l : Locale). P l.name) ls × (length ls ≡ n)

locales_named : (P : Name → Type 0) (sources : List Source) (n : ℕ) (ss : List Source) → AllByRecursion (λ (s : Source). P s.name) ss → IfOk (locales_from sources n ss) (AreNamed P (length ss))
locales_named P sources n [] all = (tt, refl)
locales_named P sources n (s ∷ ss) all =
    through (AreNamed P (length (s ∷ ss))) (locale_of sources n s) (λ l. locales_from sources (n + 1) ss >>= λ ls. Ok (l ∷ ls)) (λ l e.
    through (AreNamed P (length (s ∷ ss))) (locales_from sources (n + 1) ss) (λ ls. Ok (l ∷ ls)) (λ ls f.
    let rest : AreNamed P (length ss) ls = ok_at (AreNamed P (length ss)) (locales_from sources (n + 1) ss) ls f (locales_named P sources (n + 1) ss all.1) in
    let name : l.name ≡ s.name = ok_at (λ (x : Locale). x.name ≡ s.name) (locale_of sources n s) l e (locale_named sources n s) in
    ((subst P (sym name) all.0, rest.0), ap suc rest.1)))

-- there are as many as sources
pub locales_counted : (sources : List Source) (locales : List Locale) → locales_of sources ≡ Ok locales → length locales ≡ length sources
locales_counted sources locales e =
    (ok_at (AreNamed (IsFound (names_of sources)) (length sources)) (locales_of sources) locales e (locales_named (IsFound (names_of sources)) sources 1 sources (all_found [] sources))).1

-- the locale with a number has such a name
named_at : (P : Name → Type 0) (ls : List Locale) (n : ℕ) → AllByRecursion (λ (l : Locale). P l.name) ls → 1 ≤ n → n ≤ length ls → P (locale_among ls n).name
named_at P ls zero all least most = absurd (omega (arith, least))
named_at P [] (suc k) all least most = absurd (omega (arith, most))
named_at P (l ∷ ls) (suc zero) all least most = all.0
named_at P (l ∷ ls) (suc (suc k)) all least most = named_at P ls (suc k) all.1 (omega arith) (omega (arith, most))

-- ---- keys

abbrev pub AreWithin : ℕ → List (Name × ℕ) → Type 0
AreWithin most named = AllByRecursion (λ (e : Name × ℕ). (1 ≤ e.1) × (e.1 ≤ most)) named

pub within_one_more : (most n : ℕ) (name : Name) (named : List (Name × ℕ)) → 1 ≤ n → n ≤ most → AreWithin most named → AreWithin most (named ++ (name, n) ∷ [])
within_one_more most n name [] least le within = ((least, le), tt)
within_one_more most n name (e ∷ es) least le within = (within.0, within_one_more most n name es least le within.1)

key_within : (most n : ℕ) (key : Option Name) (named : List (Name × ℕ)) → 1 ≤ n → n ≤ most → AreWithin most named → AreWithin most (elim key [ None ↦ named | Some k ↦ with_named named k n ])
key_within most n None named least le within = within
key_within most n (Some k) named least le within = with_either (AreWithin most) named k n within (within_one_more most n k named least le within)

pub keys_within : (most n : ℕ) (named : List (Name × ℕ)) (ss : List Source) → 1 ≤ n → n + length ss ≤ most + 1 → AreWithin most named → AreWithin most (keys_after named n ss)
keys_within most n named [] least le within = within
keys_within most n named (s ∷ ss) least le within =
    keys_within most (n + 1) (elim s.key [ None ↦ named | Some k ↦ with_named named k n ]) ss (omega arith) (omega (arith, le))
    (key_within most n s.key named least (omega (arith, le)) within)

-- what is found is what all entries are
pub found_as : (P : ℕ → Type 0) (es : List (Name × ℕ)) (name : Name) → AllByRecursion (λ (e : Name × ℕ). P e.1) es → IfSome (first_named es name) P
found_as P [] name all = tt
found_as P (e ∷ es) name all =
    elim (bytes_eq e.0 name) as (λ b. IfSome (cond b (Some e.1) (first_named es name)) P) [ true ↦ all.0 | false ↦ found_as P es name all.1 ]

-- ---- the library

-- numbers up to that of the names are on the shelf
shelf_length : (c : LibraryData) → length (opening c) ≡ length c.names + 1
shelf_length c = let mapped = length-map c.names (λ (entry : Name × ℕ). first_offer c entry.0) in omega arith

number_within : (least most : ℕ) (o : Option ℕ) → is_some o ≡ true → IfSome o (λ n. (least ≤ n) × (n ≤ most)) → (least ≤ unwrap_or o 0) × (unwrap_or o 0 ≤ most)
number_within least most None there within = absurd (cc there)
number_within least most (Some n) there within = within

-- what holds of a library whose keys may be installed
record CanInstall (c : LibraryData) : Type 0 where
  names : AllByRecursion (λ (e : Name × ℕ). (1 ≤ e.1) × (e.1 ≤ length c.names)) c.names
  found : AllByRecursion (λ (l : Locale). IsFound c.names l.name) c.locales
  keys : AreWithin (length c.locales) c.keys

version_within : (c : LibraryData) → CanInstall c → (o : Option ℕ) → IfSome o (λ n. (1 ≤ n) × (n ≤ length c.locales))
    → IfSome {T = ℕ × Offered} (option_map (λ n. (unwrap_or (first_named c.names (locale_at c n).name) 0, offer_at c n)) o) (λ version. (1 ≤ version.0) × (version.0 < length (opening c)))
version_within c can None within = tt
version_within c can (Some n) within =
    let name : Name = (locale_at c n).name in
    let there : IsFound c.names name = named_at (IsFound c.names) c.locales n can.found within.0 within.1 in
    let number = number_within 1 (length c.names) (first_named c.names name) there (found_as (λ (m : ℕ). (1 ≤ m) × (m ≤ length c.names)) c.names name can.names) in
    let long = shelf_length c in
    (number.0, omega (arith, number.1, long))

can_install : (c : LibraryData) → CanInstall c → IsInstallable c
can_install c can key = version_within c can (first_named c.keys key) (found_as (λ (n : ℕ). (1 ≤ n) × (n ≤ length c.locales)) c.keys key can.keys)

-- ---- libraries that are built

-- both bounds of names at once
names_within : (named : List (Name × ℕ)) (most : ℕ) → AreFrom 1 named → AreUpTo most named → AllByRecursion (λ (e : Name × ℕ). (1 ≤ e.1) × (e.1 ≤ most)) named
names_within [] most from up = tt
names_within (e ∷ es) most from up = ((from.0, up.0), names_within es most from.1 up.1)

abbrev read : LibraryData → Reads LibraryData
read c = Ok c

ok_is : (x y : LibraryData) → read x ≡ read y → x ≡ y
ok_is x y e = cc

built_can : (sources : List Source) (native : Option Name) (locales : List Locale) → locales_of sources ≡ Ok locales → CanInstall (catalog_of sources native locales)
built_can sources native locales e =
    let named = ok_at (AreNamed (IsFound (names_of sources)) (length sources)) (locales_of sources) locales e (locales_named (IsFound (names_of sources)) sources 1 sources (all_found [] sources)) in
    record {
      names = names_within (names_of sources) (length (names_of sources)) (names_from [] sources tt) (names_counted sources);
      found = named.0;
      keys = subst (λ (n : ℕ). AreWithin n (keys_of sources)) (sym named.1) (keys_within (length sources) 1 [] sources (omega arith) (omega arith) tt);
    }

pub unless_is : (fault : Option (Place × Reason)) (locales : Reads (List Locale)) (made : List Locale) → unless_fault fault locales ≡ Ok made → locales ≡ Ok made
unless_is None locales made e = e
unless_is (Some fault) locales made e = absurd cc

-- the keys of the library of sources may be installed
pub is_installable : (native : Option Name) (sources : List Source) (c : LibraryData) → catalog_from native sources ≡ Ok c → IsInstallable c
is_installable native sources c e =
    let made = value_of (unless_fault (copy_fault sources) (locales_of sources)) (λ made. Ok (catalog_of sources native made)) c e in
    subst IsInstallable (ok_is (catalog_of sources native made.0) c made.2)
    (can_install (catalog_of sources native made.0) (built_can sources native made.0 (unless_is (copy_fault sources) (locales_of sources) made.0 made.1)))
