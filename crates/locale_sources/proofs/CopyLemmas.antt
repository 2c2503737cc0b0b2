-- Copies that are followed by tables.
use Rattle.std.proofs.Common.{◌≡◌, ℕ, zero, suc, ◌+◌, ◌<◌, Bool, true, false, cond, List, [], ◌∷◌, length, map, Option, Some, None, IfSome, refl, sym, ◌∙◌, ap, subst, arith, is_some}
use Rattle.std.specs.List.{range_with_len, slice_get}
use Rattle.std.proofs.lemmas.List.FromFn.{length-map-range_with_len}
use Rattle.lc_base.specs.BuiltIn.{is_posix_locale}
use Rattle.lc_base.specs.Lines.{◌>>=◌}
use Rattle.lc_base.specs.declared.category.Category.{Category}
use Rattle.lc_base.specs.Tables.{first_named}
use Rattle.charset.specs.Portable.{Name}
use Rattle.keywords.specs.declared.source.Section.{Section}
use Rattle.keywords.specs.declared.source.Body.TheVariants.{Copy, Entries}
use Rattle.locale_sources.specs.Sources.{Source}
use Rattle.locale_sources.specs.Sections.{section_of, section_at}
use Rattle.locale_sources.specs.Copies.{locale_numbers, target, step_from, step, followed, last}
use Rattle.locale_sources.specs.Tables.{led, repeated, IsClosed}
use Rattle.locale_sources.proofs.TableLemmas.{led-map, tables-same}

some_get : {X : Type 0} (xs : List X) (k : ℕ) (P : X → Option Section) → is_some (slice_get xs k >>= P) ≡ true → k < length xs
some_get [] k P e = absurd cc
some_get (x ∷ xs) zero P e = omega arith
some_get (x ∷ xs) (suc k) P e = let h = some_get xs k P e in omega arith

-- a section is in a source that is there
there : (S : List Source) (c : Category) (n : ℕ) → is_some (section_at S c n) ≡ true → n < length S + 1
there S c zero e = absurd cc
there S c (suc k) e = let h = some_get S k (λ s. section_of c s.sections) e in omega arith

in_locale : (S : List Source) (c : Category) (n : ℕ) (b : Bool) → is_some (section_at S c n) ≡ b → IfSome (cond b (Some n) None) (λ to. to < length S + 1)
in_locale S c n true e = there S c n e
in_locale S c n false e = tt

target_if : (S : List Source) (c : Category) (o : Option ℕ) → IfSome (o >>= λ (n : ℕ). cond (is_some (section_at S c n)) (Some n) None) (λ to. to < length S + 1)
target_if S c None = tt
target_if S c (Some n) = in_locale S c n (is_some (section_at S c n)) refl

posix_or : (S : List Source) (c : Category) (b : Bool) (o : Option ℕ) → IfSome o (λ to. to < length S + 1) → IfSome (cond b (Some 0) o) (λ to. to < length S + 1)
posix_or S c true o h = omega arith
posix_or S c false o h = h

target_inside : (S : List Source) (c : Category) (name : Name) → IfSome (target S c name) (λ to. to < length S + 1)
target_inside S c name = posix_or S c (is_posix_locale name) (first_named (locale_numbers S) name >>= λ (n : ℕ). cond (is_some (section_at S c n)) (Some n) None) (target_if S c (first_named (locale_numbers S) name))

step_if : (S : List Source) (c : Category) (n : ℕ) (o : Option Section) → n < length S + 1 → IfSome (step_from S c n o) (λ to. to < length S + 1)
step_if S c n None h = h
step_if S c n (Some section) h = elim section.body as (λ b. IfSome (elim b [ Copy place name ↦ target S c name | Entries es ↦ Some n ]) (λ to. to < length S + 1)) [
  | Copy place name ↦ target_inside S c name
  | Entries es ↦ h
]

step_inside : (S : List Source) (c : Category) (n : ℕ) → n < length S + 1 → IfSome (step S c n) (λ to. to < length S + 1)
step_inside S c n h = step_if S c n (section_at S c n) h

-- the table of single copies
abbrev pub table_of : List Source → Category → List (Option ℕ)
table_of S c = map (step S c) (range_with_len 0 (length S + 1))

pub length_of : (S : List Source) (c : Category) → length (table_of S c) ≡ length S + 1
length_of S c = length-map-range_with_len (step S c) 0 (length S + 1)

pub closed : (S : List Source) (c : Category) → IsClosed (table_of S c)
closed S c n h =
    let inside : n < length S + 1 = subst (λ (m : ℕ). n < m) (length_of S c) h in
    let P : Option ℕ → Type 0 = λ o. IfSome o (λ to. to < length S + 1) in
    let at : P (led (table_of S c) n) = subst P (sym (led-map (step S c) (length S + 1) n inside)) (step_inside S c n inside) in
    subst (λ (m : ℕ). IfSome (led (table_of S c) n) (λ to. to < m)) (sym (length_of S c)) at

on : (S : List Source) (c : Category) (m : ℕ) (o : Option ℕ) → IfSome o (λ to. to < length S + 1) → ((k : ℕ) → k < length S + 1 → repeated (table_of S c) m k ≡ followed S c m k) → (o >>= repeated (table_of S c) m) ≡ (o >>= followed S c m)
on S c m None inside rest = refl
on S c m (Some k) inside rest = rest k inside

-- so many steps of the table are so many copies
followed_is : (S : List Source) (c : Category) (m k : ℕ) → k < length S + 1 → repeated (table_of S c) m k ≡ followed S c m k
followed_is S c zero k h = refl
followed_is S c (suc m) k h =
    ap (λ (o : Option ℕ). o >>= repeated (table_of S c) m) (led-map (step S c) (length S + 1) k h)
    ∙ on S c m (step S c k) (step_inside S c k h) (λ j inside. followed_is S c m j inside)

-- the table of all copies that are followed
pub ends_are : (S : List Source) (c : Category) → map (repeated (table_of S c) (length S)) (range_with_len 0 (length (table_of S c))) ≡ map (last S c) (range_with_len 0 (length S + 1))
ends_are S c =
    ap (λ (n : ℕ). map (repeated (table_of S c) (length S)) (range_with_len 0 n)) (length_of S c)
    ∙ tables-same (repeated (table_of S c) (length S)) (last S c) (length S + 1) (λ k h. followed_is S c (length S) k h)
