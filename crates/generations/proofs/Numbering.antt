-- The handles of a row are numbered from 1 in the order in which they were made, and no handle is made twice.
use Rattle.std.proofs.Common.{◌≡◌, ℕ, zero, suc, ◌+◌, ◌≤◌, Bool, true, false, ◌==◌, ◌&&◌, ◌||◌, List, [], ◌∷◌, length, Option, None, Some, refl, ap, sym, ◌∙◌, subst, inl, inr, arith, add-one}
use Rattle.std.proofs.lemmas.Bool.{eqb-true, eq-eqb, and_parts, and_from, or_cases, or_left, or_right, cases_eq, false_from_ne_true, false≢true}
use Rattle.std.specs.Prelude.{if◌then◌else◌}
use Rattle.std.specs.List.{list_any}
use Rattle.generations.specs.declared.numbers.Numbers.{Numbers}
use Rattle.generations.specs.Kind.{Kind, owner, row, generation, same_handle, is_in_row, nth, numbered}
use Rattle.generations.specs.Making.{Making, is_handle, made, with_handle, handles, makes, IsNext, IsNumbered}

-- ---- numbers

pub owner_nth : {A : Type 0} (k : Kind A) (t r n : ℕ) → owner k (nth k t r n) ≡ t
owner_nth k t r n = ap (λ (x : Numbers). x.owner) (k.same_numbers (record { owner = t; row = r; generation = n }))

pub row_nth : {A : Type 0} (k : Kind A) (t r n : ℕ) → row k (nth k t r n) ≡ r
row_nth k t r n = ap (λ (x : Numbers). x.row) (k.same_numbers (record { owner = t; row = r; generation = n }))

pub generation_nth : {A : Type 0} (k : Kind A) (t r n : ℕ) → generation k (nth k t r n) ≡ n
generation_nth k t r n = ap (λ (x : Numbers). x.generation) (k.same_numbers (record { owner = t; row = r; generation = n }))

-- a handle is the one of its numbers
pub nth_itself : {A : Type 0} (k : Kind A) (h : A) → nth k (owner k h) (row k h) (generation k h) ≡ h
nth_itself k h = k.same_handle h

-- a handle in a row is one of its thread in it
pub in_row_numbers : {A : Type 0} (k : Kind A) (t r : ℕ) (g : A) → is_in_row k t r g ≡ true → (owner k g ≡ t) × (row k g ≡ r)
in_row_numbers k t r g is =
    let parts = and_parts (owner k g == t) (row k g == r) is in
    (eqb-true (owner k g) t parts.0, eqb-true (row k g) r parts.1)

pub in_own_row : {A : Type 0} (k : Kind A) (h : A) → is_in_row k (owner k h) (row k h) h ≡ true
in_own_row k h =
    and_from (owner k h == owner k h) (row k h == row k h) (eq-eqb (owner k h) (owner k h) refl) (eq-eqb (row k h) (row k h) refl)

-- two handles that are one have the same numbers
pub same_handles : {A : Type 0} (k : Kind A) (g h : A) → same_handle k g h ≡ true → g ≡ h
same_handles k g h p =
    let first = and_parts (owner k g == owner k h && row k g == row k h) (generation k g == generation k h) p in
    let place = and_parts (owner k g == owner k h) (row k g == row k h) first.0 in
    let owners = eqb-true (owner k g) (owner k h) place.0 in
    let rows = eqb-true (row k g) (row k h) place.1 in
    let generations = eqb-true (generation k g) (generation k h) first.1 in
    sym (nth_itself k g)
    ∙ ap (λ n. nth k n (row k g) (generation k g)) owners
    ∙ ap (λ n. nth k (owner k h) n (generation k g)) rows
    ∙ ap (nth k (owner k h) (row k h)) generations
    ∙ nth_itself k h

-- a handle is itself
pub same_itself : {A : Type 0} (k : Kind A) (h : A) → same_handle k h h ≡ true
same_itself k h =
    and_from (owner k h == owner k h && row k h == row k h) (generation k h == generation k h)
    (and_from (owner k h == owner k h) (row k h == row k h) (eq-eqb (owner k h) (owner k h) refl) (eq-eqb (row k h) (row k h) refl))
    (eq-eqb (generation k h) (generation k h) refl)

-- a handle that is there and is this one
pub is_handle_some : {A : Type 0} (k : Kind A) (o : Option A) (h : A) → is_handle k o h ≡ true → o ≡ Some h
is_handle_some k None h p = absurd (cc p)
is_handle_some k (Some g) h p = ap (λ x. Some x) (same_handles k g h p)

-- ---- rows

-- one more handle in its row, or none
numbered_if : {A : Type 0} (k : Kind A) (t r : ℕ) (hs : List A) (g : A) (b : Bool) → hs ≡ numbered k t r (length hs)
    → (b ≡ true → g ≡ nth k t r (suc (length hs)))
    → (if b then g ∷ hs else hs) ≡ numbered k t r (length (if b then g ∷ hs else hs))
numbered_if k t r hs g true before is = let first = is refl in cc
numbered_if k t r hs g false before is = before

numbered_with : {A : Type 0} (k : Kind A) (M : List (Making A)) (t r who : ℕ) (o : Option A) → IsNext k M who o
    → handles k M t r ≡ numbered k t r (makes k M t r)
    → with_handle k t r o (handles k M t r) ≡ numbered k t r (length (with_handle k t r o (handles k M t r)))
numbered_with k M t r who None next before = before
numbered_with k M t r who (Some g) next before =
    numbered_if k t r (handles k M t r) g (is_in_row k t r g) before (λ is.
    let numbers = in_row_numbers k t r g is in
    let owner : who ≡ t = sym (ap (owner k) next ∙ owner_nth k who (row k g) (makes k M who (row k g) + 1)) ∙ numbers.0 in
    next ∙ ap (λ n. nth k n (row k g) (makes k M n (row k g) + 1)) owner ∙ ap (λ n. nth k t n (makes k M t n + 1)) numbers.1
    ∙ ap (nth k t r) (add-one (makes k M t r)))

-- the handles that were made in a row are numbered from 1, the newest first
pub handles_numbered : {A : Type 0} (k : Kind A) (M : List (Making A)) → IsNumbered k M → (t r : ℕ) → handles k M t r ≡ numbered k t r (makes k M t r)
handles_numbered k [] each t r = refl
handles_numbered k (m ∷ M) each t r = numbered_with k M t r m.who m.handle each.0 (handles_numbered k M each.1 t r)

more_if : {A : Type 0} (b : Bool) (g : A) (hs : List A) → length hs ≤ length (if b then g ∷ hs else hs)
more_if true g hs = omega arith
more_if false g hs = omega arith

-- no entry takes a handle of a row away
pub more_handles : {A : Type 0} (k : Kind A) (t r : ℕ) (o : Option A) (hs : List A) → length hs ≤ length (with_handle k t r o hs)
more_handles k t r None hs = omega arith
more_handles k t r (Some g) hs = more_if (is_in_row k t r g) g hs

-- what an entry made has the next generation of its row, which has one more handle afterwards
pub made_next : {A : Type 0} (k : Kind A) (m : Making A) (M : List (Making A)) (h : A) → IsNumbered k (m ∷ M) → is_handle k m.handle h ≡ true
    → (m.who ≡ owner k h) × (generation k h ≡ makes k M (owner k h) (row k h) + 1)
    × (makes k (m ∷ M) (owner k h) (row k h) ≡ makes k M (owner k h) (row k h) + 1)
made_next k m M h each here =
    let is = is_handle_some k m.handle h here in
    let same : h ≡ nth k m.who (row k h) (makes k M m.who (row k h) + 1) = subst (IsNext k M m.who) is each.0 in
    let who : m.who ≡ owner k h = sym (ap (owner k) same ∙ owner_nth k m.who (row k h) (makes k M m.who (row k h) + 1)) in
    let hs = handles k M (owner k h) (row k h) in (
      who,
      ap (generation k) same ∙ generation_nth k m.who (row k h) (makes k M m.who (row k h) + 1) ∙ ap (λ n. makes k M n (row k h) + 1) who,
      ap (λ o. length (with_handle k (owner k h) (row k h) o hs)) is
          ∙ ap (λ b. length (if b then h ∷ hs else hs)) (in_own_row k h) ∙ sym (add-one (length hs)),
    )

-- a handle that was made has a generation from 1 up to the number of those made in its row
pub made_within : {A : Type 0} (k : Kind A) (M : List (Making A)) → IsNumbered k M → (h : A) → made k M h ≡ true
    → (1 ≤ generation k h) × (generation k h ≤ makes k M (owner k h) (row k h))
made_within k [] each h p = absurd (cc p)
made_within k (m ∷ M) each h p =
    elim (or_cases (is_handle k m.handle h) (made k M h) p) [
      | inl here ↦ let next = made_next k m M h each here in (omega arith, omega arith)
      | inr before ↦
          let below = made_within k M each.1 h before in
          let more = more_handles k (owner k h) (row k h) m.handle (handles k M (owner k h) (row k h)) in
          (omega arith, omega arith)
    ]

-- ---- handles that were made

-- a handle that is not in the row is not the one
not_here : {A : Type 0} (k : Kind A) (g h : A) → is_in_row k (owner k h) (row k h) g ≡ false → same_handle k g h ≡ false
not_here k g h out =
    false_from_ne_true (same_handle k g h) (λ same.
    false≢true (sym out ∙ ap (is_in_row k (owner k h) (row k h)) (same_handles k g h same) ∙ in_own_row k h))

any_if : {A : Type 0} (k : Kind A) (h g : A) (hs : List A) (b : Bool) → is_in_row k (owner k h) (row k h) g ≡ b
    → list_any (λ x. same_handle k x h) (if b then g ∷ hs else hs) ≡ (same_handle k g h || list_any (λ x. same_handle k x h) hs)
any_if k h g hs true is = refl
any_if k h g hs false is = ap (λ b. b || list_any (λ x. same_handle k x h) hs) (sym (not_here k g h is))

any_with : {A : Type 0} (k : Kind A) (h : A) (o : Option A) (hs : List A)
    → list_any (λ x. same_handle k x h) (with_handle k (owner k h) (row k h) o hs) ≡ (is_handle k o h || list_any (λ x. same_handle k x h) hs)
any_with k h None hs = refl
any_with k h (Some g) hs = any_if k h g hs (is_in_row k (owner k h) (row k h) g) refl

-- a handle was made where it is among those of its row
pub made_listed : {A : Type 0} (k : Kind A) (M : List (Making A)) (h : A)
    → made k M h ≡ list_any (λ x. same_handle k x h) (handles k M (owner k h) (row k h))
made_listed k [] h = refl
made_listed k (m ∷ M) h =
    ap (λ b. is_handle k m.handle h || b) (made_listed k M h)
    ∙ sym (any_with k h m.handle (handles k M (owner k h) (row k h)))

any_numbered : {A : Type 0} (k : Kind A) (n : ℕ) (h : A) → 1 ≤ generation k h → generation k h ≤ n
    → list_any (λ x. same_handle k x h) (numbered k (owner k h) (row k h) n) ≡ true
any_numbered k zero h some below = absurd (omega arith)
any_numbered k (suc n) h some below =
    elim (cases_eq (generation k h) (suc n)) [
      | inl is ↦
          or_left (same_handle k (nth k (owner k h) (row k h) (suc n)) h) (list_any (λ x. same_handle k x h) (numbered k (owner k h) (row k h) n))
          (ap (λ i. same_handle k (nth k (owner k h) (row k h) i) h) (sym is)
          ∙ ap (λ g. same_handle k g h) (nth_itself k h) ∙ same_itself k h)
      | inr other ↦
          or_right (same_handle k (nth k (owner k h) (row k h) (suc n)) h) (list_any (λ x. same_handle k x h) (numbered k (owner k h) (row k h) n))
          (any_numbered k n h some (omega arith))
    ]

-- each generation from 1 up to the number of handles made in a row was made
pub within_made : {A : Type 0} (k : Kind A) (M : List (Making A)) → IsNumbered k M → (h : A) → 1 ≤ generation k h
    → generation k h ≤ makes k M (owner k h) (row k h) → made k M h ≡ true
within_made k M each h some below =
    made_listed k M h
    ∙ ap (list_any (λ x. same_handle k x h)) (handles_numbered k M each (owner k h) (row k h))
    ∙ any_numbered k (makes k M (owner k h) (row k h)) h some below

-- an entry makes no handle that was made before
pub made_once : {A : Type 0} (k : Kind A) (m : Making A) (M : List (Making A)) (h : A) → IsNumbered k (m ∷ M) → made k M h ≡ true
    → is_handle k m.handle h ≡ false
made_once k m M h each before =
    false_from_ne_true (is_handle k m.handle h) (λ here.
    let next = made_next k m M h each here in
    let within = made_within k M each.1 h before in
    omega arith)

-- ---- rows after one more entry

nth_in_row : {A : Type 0} (k : Kind A) (t r n : ℕ) → is_in_row k t r (nth k t r n) ≡ true
nth_in_row k t r n =
    and_from (owner k (nth k t r n) == t) (row k (nth k t r n) == r)
    (eq-eqb (owner k (nth k t r n)) t (owner_nth k t r n)) (eq-eqb (row k (nth k t r n)) r (row_nth k t r n))

nth_elsewhere : {A : Type 0} (k : Kind A) (t r w q n : ℕ) → ((t ≡ w) × (r ≡ q) → ⊥) → is_in_row k t r (nth k w q n) ≡ false
nth_elsewhere k t r w q n apart =
    false_from_ne_true (is_in_row k t r (nth k w q n)) (λ here.
    let numbers = in_row_numbers k t r (nth k w q n) here in
    apart (sym numbers.0 ∙ owner_nth k w q n, sym numbers.1 ∙ row_nth k w q n))

-- the row of a thread's next handle has one more
pub more_in_row : {A : Type 0} (k : Kind A) (m : Making A) (M : List (Making A)) (w q : ℕ) → m.handle ≡ Some (nth k w q (makes k M w q + 1))
    → makes k (m ∷ M) w q ≡ makes k M w q + 1
more_in_row k m M w q is =
    let hs = handles k M w q in
    let g = nth k w q (length hs + 1) in
    ap (λ o. length (with_handle k w q o hs)) is
    ∙ ap (λ b. length (if b then g ∷ hs else hs)) (nth_in_row k w q (length hs + 1)) ∙ sym (add-one (length hs))

-- the other rows have as many as before
pub same_elsewhere : {A : Type 0} (k : Kind A) (m : Making A) (M : List (Making A)) (w q t r : ℕ) → m.handle ≡ Some (nth k w q (makes k M w q + 1))
    → ((t ≡ w) × (r ≡ q) → ⊥) → makes k (m ∷ M) t r ≡ makes k M t r
same_elsewhere k m M w q t r is apart =
    let hs = handles k M t r in
    let n : ℕ = makes k M w q + 1 in
    ap (λ o. length (with_handle k t r o hs)) is
    ∙ ap (λ b. length (if b then nth k w q n ∷ hs else hs)) (nth_elsewhere k t r w q n apart)

-- what another thread makes is in none of the thread's rows
pub with_other : {A : Type 0} (k : Kind A) (M : List (Making A)) (who t r : ℕ) (o : Option A) (hs : List A) → IsNext k M who o → (who ≡ t → ⊥)
    → with_handle k t r o hs ≡ hs
with_other k M who t r None hs next other = refl
with_other k M who t r (Some g) hs next other =
    ap (λ b. if b then g ∷ hs else hs) (false_from_ne_true (is_in_row k t r g) (λ is.
    other (sym (ap (owner k) next ∙ owner_nth k who (row k g) (makes k M who (row k g) + 1)) ∙ (in_row_numbers k t r g is).0)))
