-- Each key of a later version is one of the library's that the version is compiled into.
use Rattle.std.proofs.Common.{◌≡◌, ℕ, ◌+◌, Bool, true, false, ◌||◌, cond, List, [], ◌∷◌, ◌++◌, Option, Some, None, Ok, Err, refl, sym, ap, subst}
use Rattle.std.specs.Prelude.{IfOk, IsSome, is_some, map, option_map}
use Rattle.std.specs.List.{All}
use Rattle.std.specs.Str.{bytes_eq}
use Rattle.std.proofs.lemmas.List.Elements.{All-weaker}
use Rattle.std.proofs.lemmas.Slice.Eq.{bytes_eq-Decides}
use Rattle.lc_base.specs.declared.block.Block.{Block}
use Rattle.lc_base.specs.declared.block.Later.{Later}
use Rattle.lc_base.specs.Reading.{Reads, ◌>>=◌}
use Rattle.lc_base.proofs.ReadingLemmas.{value_of}
use Rattle.lc_base.specs.Tables.{first_named}
use Rattle.charset.specs.Portable.{Name}
use Rattle.charset.specs.CodedSet.{CodedSet}
use Rattle.locale_reader.specs.Source.{source}
use Rattle.lc_base.specs.Named.{with_named}
use Rattle.locale_sources.specs.Sources.{Source}
use Rattle.category_store.specs.Blocks.{Placed as PlacedBlock, locale_block, later_block, is_before, among, merged, by_place}
use Rattle.category_store.specs.Sources.{charsets, charset_named, source_of, sources_of}
use Rattle.locale_sources.specs.Copies.{copy_fault}
use Rattle.category_store.specs.Compiled.{locales_of}
use Rattle.category_store.specs.LibraryData.{LibraryData}
use Rattle.category_store.specs.Library.{keys_after, keys_of, catalog_of, unless_fault, catalog_from, catalog_over, catalog, later}
use Rattle.script_commands.specs.declared.command.Placed.{Placed}
use Rattle.script_commands.specs.Known.{has_key}
use Rattle.script_lang.specs.declared.bundle.Bundle.{Bundle}
use Rattle.script_lang.specs.Accepted.{HasItsBlock, HasItsKeys}
use Rattle.script_plan.specs.Plan.{HasVersion}

-- ---- blocks by place, and their sources

abbrev is_key : Option Name → Name → Bool
is_key None key = false
is_key (Some k) key = bytes_eq k key

-- one of the blocks, and of the sources, has the key
abbrev is_of_block : Name → List PlacedBlock → Bool
is_of_block key [] = false
is_of_block key (p ∷ ps) = is_key p.key key || is_of_block key ps

abbrev is_of_source : Name → List Source → Bool
is_of_source key [] = false
is_of_source key (s ∷ ss) = is_key s.key key || is_of_source key ss

or_with : (b c d : Bool) → (c ≡ true → d ≡ true) → (b || c) ≡ true → (b || d) ≡ true
or_with true c d more e = refl
or_with false c d more e = more e

or_right : (b c : Bool) → c ≡ true → (b || c) ≡ true
or_right true c e = refl
or_right false c e = e

of_versions : (key : Name) (versions : List Later) → has_key versions key ≡ true → is_of_block key (map later_block versions) ≡ true
of_versions key [] has = has
of_versions key (v ∷ vs) has = or_with (bytes_eq v.key key) (has_key vs key) (is_of_block key (map later_block vs)) (of_versions key vs) has

of_among : (key : Name) (x : PlacedBlock) (rest : List PlacedBlock → List PlacedBlock) → ((zs : List PlacedBlock) → is_of_block key zs ≡ true → is_of_block key (rest zs) ≡ true) → (ys : List PlacedBlock)
    → is_of_block key ys ≡ true → is_of_block key (among x rest ys) ≡ true
of_among key x rest kept [] has = absurd cc
of_among key x rest kept (y ∷ ys) has =
    elim (is_before y x) as (λ b. is_of_block key (cond b (y ∷ among x rest ys) (x ∷ rest (y ∷ ys))) ≡ true) [
      | true ↦ or_with (is_key y.key key) (is_of_block key ys) (is_of_block key (among x rest ys)) (of_among key x rest kept ys) has
      | false ↦ or_right (is_key x.key key) (is_of_block key (rest (y ∷ ys))) (kept (y ∷ ys) has)
    ]

of_merged : (key : Name) (xs ys : List PlacedBlock) → is_of_block key ys ≡ true → is_of_block key (merged xs ys) ≡ true
of_merged key [] ys has = has
of_merged key (x ∷ xs) ys has = of_among key x (merged xs) (of_merged key xs) ys has

through : {A B : Type 0} (P : B → Type 0) (r : Reads A) (f : A → Reads B) → ((a : A) → IfOk (f a) P) → IfOk (r >>= f) P
through P (Ok a) f h = h a
through P (Err e) f h = tt

after : {A B : Type 0} (Q : A → Type 0) (P : B → Type 0) (r : Reads A) (f : A → Reads B) → IfOk r Q → ((a : A) → Q a → IfOk (f a) P) → IfOk (r >>= f) P
after Q P (Ok a) f first h = h a first
after Q P (Err e) f first h = tt

source_keyed : (sets : List (Name × CodedSet)) (p : PlacedBlock) → IfOk (source_of sets p) (λ (s : Source). s.key ≡ p.key)
source_keyed sets p = through (λ (s : Source). s.key ≡ p.key) (source p.block.text p.block.first_line (charset_named sets p.block.charset)) _ (λ read. refl)

-- where a block has the key, its source has it
abbrev PassesKey : Name → List PlacedBlock → List Source → Type 0
PassesKey key ps ss = is_of_block key ps ≡ true → is_of_source key ss ≡ true

of_sources : (key : Name) (sets : List (Name × CodedSet)) (ps : List PlacedBlock) → IfOk (sources_of sets ps) (PassesKey key ps)
of_sources key sets [] = λ has. has
of_sources key sets (p ∷ ps) =
    after (λ (s : Source). s.key ≡ p.key) (PassesKey key (p ∷ ps)) (source_of sets p) _ (source_keyed sets p) (λ s same.
    after (PassesKey key ps) (PassesKey key (p ∷ ps)) (sources_of sets ps) _ (of_sources key sets ps) (λ ss more has.
    subst (λ (k : Option Name). (is_key k key || is_of_source key ss) ≡ true) (sym same) (or_with (is_key p.key key) (is_of_block key ps) (is_of_source key ss) more has)))

-- ---- keys of sources

abbrev IsFound : List (Name × ℕ) → Name → Type 0
IsFound named key = is_some (first_named named key) ≡ true

found_more : (named : List (Name × ℕ)) (other key : Name) (n : ℕ) → IsFound named key → IsFound (named ++ (other, n) ∷ []) key
found_more [] other key n found = absurd (cc found)
found_more (e ∷ es) other key n found =
    (elim (bytes_eq e.0 key) as (λ b. is_some (cond b (Some e.1) (first_named es key)) ≡ true → is_some (cond b (Some e.1) (first_named (es ++ (other, n) ∷ []) key)) ≡ true) [
      | true ↦ λ f. f
      | false ↦ λ f. found_more es other key n f
    ]) found

found_last : (named : List (Name × ℕ)) (key : Name) (n : ℕ) → IsFound (named ++ (key, n) ∷ []) key
found_last [] key n = ap (λ (b : Bool). is_some (cond b (Some n) None)) ((bytes_eq-Decides key key).1 refl)
found_last (e ∷ es) key n =
    elim (bytes_eq e.0 key) as (λ b. is_some (cond b (Some e.1) (first_named (es ++ (key, n) ∷ []) key)) ≡ true) [ true ↦ refl | false ↦ found_last es key n ]

found_here : (named : List (Name × ℕ)) (key : Name) (n : ℕ) → IsFound (with_named named key n) key
found_here named key n =
    (elim (is_some (first_named named key)) as (λ b. is_some (first_named named key) ≡ b → IsFound (cond b named (named ++ (key, n) ∷ [])) key) [
      | true ↦ λ e. e
      | false ↦ λ e. found_last named key n
    ]) refl

found_with : (named : List (Name × ℕ)) (other : Option Name) (key : Name) (n : ℕ) → IsFound named key → IsFound (elim other [ None ↦ named | Some k ↦ with_named named k n ]) key
found_with named None key n found = found
found_with named (Some k) key n found =
    elim (is_some (first_named named k)) as (λ b. IsFound (cond b named (named ++ (k, n) ∷ [])) key) [ true ↦ found | false ↦ found_more named k key n found ]

found_after : (named : List (Name × ℕ)) (n : ℕ) (ss : List Source) (key : Name) → IsFound named key → IsFound (keys_after named n ss) key
found_after named n [] key found = found
found_after named n (s ∷ ss) key found = found_after (elim s.key [ None ↦ named | Some k ↦ with_named named k n ]) (n + 1) ss key (found_with named s.key key n found)

found_own : (named : List (Name × ℕ)) (own : Option Name) (key : Name) (n : ℕ) → is_key own key ≡ true → IsFound (elim own [ None ↦ named | Some k ↦ with_named named k n ]) key
found_own named None key n is = absurd cc
found_own named (Some k) key n is = subst (λ (x : Name). IsFound (with_named named k n) x) ((bytes_eq-Decides k key).0 is) (found_here named k n)

all_found : (named : List (Name × ℕ)) (n : ℕ) (ss : List Source) (key : Name) → is_of_source key ss ≡ true → IsFound (keys_after named n ss) key
all_found named n [] key has = absurd cc
all_found named n (s ∷ ss) key has =
    let more : List (Name × ℕ) = elim s.key [ None ↦ named | Some k ↦ with_named named k n ] in
    (elim (is_key s.key key) as (λ b. is_key s.key key ≡ b → (b || is_of_source key ss) ≡ true → IsFound (keys_after more (n + 1) ss) key) [
      | true ↦ λ is _. found_after more (n + 1) ss key (found_own named s.key key n is)
      | false ↦ λ is rest. all_found more (n + 1) ss key rest
    ]) refl has

-- ---- libraries

abbrev read : LibraryData → Reads LibraryData
read c = Ok c

ok_is : (x y : LibraryData) → read x ≡ read y → x ≡ y
ok_is x y e = cc

is_there : {A B : Type 0} (f : A → B) (o : Option A) → is_some o ≡ true → IsSome (option_map f o)
is_there f None e = absurd cc
is_there f (Some a) e = refl

ok_at : {A : Type 0} (P : A → Type 0) (r : Reads A) (a : A) → r ≡ Ok a → IfOk r P → P a
ok_at P r a e h = subst (λ (x : Reads _). IfOk x P) e h

-- each key of the later versions is one of the library's
key_there : (charmaps locales : List Block) (versions : List Later) (native : Option Name) (library : LibraryData) (key : Name) → catalog charmaps locales versions native ≡ Ok library → has_key versions key ≡ true
    → IsSome (later library key)
key_there charmaps locales versions native library key e has =
    let sets = value_of (charsets charmaps) (λ sets. catalog_over sets locales versions native) library e in
    let sources = value_of (sources_of sets.0 (by_place locales versions)) (catalog_from native) library sets.2 in
    let compiled = value_of (unless_fault (copy_fault sources.0) (locales_of sources.0)) (λ made. Ok (catalog_of sources.0 native made)) library sources.2 in
    let placed : is_of_block key (by_place locales versions) ≡ true = of_merged key (map locale_block locales) (map later_block versions) (of_versions key versions has) in
    let read : is_of_source key sources.0 ≡ true = ok_at (PassesKey key (by_place locales versions)) (sources_of sets.0 (by_place locales versions)) sources.0 sources.1 (of_sources key sets.0 (by_place locales versions)) placed in
    subst (λ (c : LibraryData). IsSome (later c key)) (ok_is (catalog_of sources.0 native compiled.0) library compiled.2)
    (is_there _ (first_named (keys_of sources.0) key) (all_found [] 1 sources.0 key read))

-- so each key that is installed has its version
pub have_versions : (bundle : Bundle) (library : LibraryData) → catalog bundle.charmaps bundle.locales bundle.later bundle.native ≡ Ok library → HasItsKeys bundle → All (HasVersion library) bundle.commands
have_versions bundle library e keyed =
    All-weaker (HasItsBlock bundle.later) (HasVersion library)
    (λ (p : Placed) has key is. key_there bundle.charmaps bundle.locales bundle.later bundle.native library key e (has key is)) bundle.commands keyed
