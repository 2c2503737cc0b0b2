-- Of a row's handles only the newest is kept.
use Rattle.std.proofs.Common.{◌≡◌, ℕ, zero, suc, ◌+◌, ◌≤◌, ◌<◌, Bool, true, false, ◌&&◌, ◌||◌, not, List, [], ◌∷◌, length, Option, None, Some, refl, ap, sym, ◌∙◌, subst, inl, inr, arith}
use Rattle.std.proofs.lemmas.Bool.{and_parts, or_parts, or_from, or_cases, cases_eq, cases_lt, cases_Bool, false_from_ne_true, not-true}
use Rattle.std.specs.Prelude.{if◌then◌else◌, nat_lt}
use Rattle.std.specs.List.{list_any}
use Rattle.generations.specs.Kind.{Kind, owner, row, generation, is_in_row, nth, numbered}
use Rattle.generations.specs.Making.{is_handle, made, with_handle, handles, makes, newest, IsNumbered, AreThreads}
use Rattle.generations.specs.Store.{Store, makings, is_free, free_row, IsNew, AllNew, NoneComesBack, IsInOrder}
use Rattle.generations.proofs.Least.{least_passes}
use Rattle.generations.proofs.Numbering.{owner_nth, row_nth, generation_nth, nth_itself, in_row_numbers, is_handle_some, handles_numbered, made_next, made_within}

-- handles that were new when they were made are numbered
pub all_numbered : {A E : Type 0} (s : Store A E) (H : List E) → AllNew s H → IsNumbered s.kind (makings s H)
all_numbered s [] new = tt
all_numbered s (e ∷ H) new = (new.0.1, all_numbered s H new.1)

-- ---- a row in which a handle is made was free

grown_if : {A : Type 0} (b : Bool) (g : A) (hs : List A) → length hs < length (if b then g ∷ hs else hs) → b ≡ true
grown_if true g hs p = refl
grown_if false g hs p = absurd (omega arith)

grown_with : {A E : Type 0} (s : Store A E) (H : List E) (who t r : ℕ) (o : Option A) → IsNew s H who o
    → makes s.kind (makings s H) t r < length (with_handle s.kind t r o (handles s.kind (makings s H) t r)) → is_free s H t r ≡ true
grown_with s H who t r None new more = absurd (omega arith)
grown_with s H who t r (Some g) new more =
    let hs = handles s.kind (makings s H) t r in
    let numbers = in_row_numbers s.kind t r g (grown_if (is_in_row s.kind t r g) g hs more) in
    let next : ℕ = makes s.kind (makings s H) who (row s.kind g) + 1 in
    let owner : who ≡ t = sym (ap (owner s.kind) new.1 ∙ owner_nth s.kind who (row s.kind g) next) ∙ numbers.0 in
    let free = least_passes s.rows (row s.kind g) (is_free s H who) new.0 in
    ap (λ n. is_free s H n r) (sym owner) ∙ ap (is_free s H who) (sym numbers.1) ∙ free.0

-- a row in which an entry makes a handle was free
pub grown_free : {A E : Type 0} (s : Store A E) (e : E) (H : List E) (t r : ℕ) → AllNew s (e ∷ H)
    → makes s.kind (makings s H) t r < makes s.kind (makings s (e ∷ H)) t r → is_free s H t r ≡ true
grown_free s e H t r new more = grown_with s H (s.making e).who t r (s.making e).handle new.0 more

-- an entry makes a handle in its owner's least free row
pub made_free : {A E : Type 0} (s : Store A E) (e : E) (H : List E) (h : A) → AllNew s (e ∷ H) → is_handle s.kind (s.making e).handle h ≡ true
    → free_row s H (owner s.kind h) ≡ Some (row s.kind h)
made_free s e H h new here =
    let is = is_handle_some s.kind (s.making e).handle h here in
    let who = (made_next s.kind (s.making e) (makings s H) h (all_numbered s (e ∷ H) new) here).0 in
    let first : free_row s H (s.making e).who ≡ Some (row s.kind h) = (subst (IsNew s H (s.making e).who) is new.0).0 in
    ap (free_row s H) (sym who) ∙ first

-- ---- handles that are kept

-- where no handle of a row passes a test, its n-th does not
none_numbered : {A : Type 0} (k : Kind A) (t r m n : ℕ) (p : A → Bool) → list_any p (numbered k t r m) ≡ false → 1 ≤ n → n ≤ m
    → p (nth k t r n) ≡ false
none_numbered k t r zero n p none some below = absurd (omega arith)
none_numbered k t r (suc m) n p none some below =
    let parts = or_parts (p (nth k t r (suc m))) (list_any p (numbered k t r m)) none in
    elim (cases_eq n (suc m)) [
      | inl is ↦ ap (λ i. p (nth k t r i)) is ∙ parts.0
      | inr other ↦ none_numbered k t r m n p parts.1 some (omega arith)
    ]

-- no handle of a free row is kept
pub free_unkept : {A E : Type 0} (s : Store A E) (H : List E) (h : A) → AllNew s H → is_free s H (owner s.kind h) (row s.kind h) ≡ true
    → made s.kind (makings s H) h ≡ true → s.is_kept H h ≡ false
free_unkept s H h new free before =
    let k = s.kind in
    let hs = handles k (makings s H) (owner k h) (row k h) in
    let each = all_numbered s H new in
    let parts = and_parts (not (list_any (s.is_kept H) hs)) (nat_lt (length hs) s.generations) free in
    let none = not-true (list_any (s.is_kept H) hs) parts.0 in
    let within = made_within k (makings s H) each h before in
    ap (s.is_kept H) (sym (nth_itself k h))
    ∙ none_numbered k (owner k h) (row k h) (makes k (makings s H) (owner k h) (row k h)) (generation k h) (s.is_kept H)
    (ap (list_any (s.is_kept H)) (sym (handles_numbered k (makings s H) each (owner k h) (row k h))) ∙ none) within.0 within.1

-- a handle that is not the newest of its row is not kept
pub older_unkept : {A E : Type 0} (s : Store A E) (H : List E) (h : A) → AllNew s H → NoneComesBack s H → made s.kind (makings s H) h ≡ true
    → generation s.kind h < makes s.kind (makings s H) (owner s.kind h) (row s.kind h) → s.is_kept H h ≡ false
older_unkept s [] h new gone before older = absurd (cc before)
older_unkept s (e ∷ H) h new gone before older =
    let k = s.kind in
    elim (or_cases (is_handle k (s.making e).handle h) (made k (makings s H) h) before) [
      | inl here ↦ let next = made_next k (s.making e) (makings s H) h (all_numbered s (e ∷ H) new) here in absurd (omega arith)
      | inr earlier ↦
          gone.0 h earlier (elim (cases_lt (generation k h) (makes k (makings s H) (owner k h) (row k h))) [
            | inl already ↦ older_unkept s H h new.1 gone.1 earlier already
            | inr last ↦ free_unkept s H h new.1 (grown_free s e H (owner k h) (row k h) new (omega arith)) earlier
          ])
    ]

-- a handle whose generation is not the last of its row is not kept, whether it was made or not
pub other_unkept : {A E : Type 0} (s : Store A E) (H : List E) (h : A) → IsInOrder s H
    → (generation s.kind h ≡ makes s.kind (makings s H) (owner s.kind h) (row s.kind h) → ⊥) → s.is_kept H h ≡ false
other_unkept s H h o other =
    let k = s.kind in
    elim (cases_Bool (made k (makings s H) h)) [
      | inl before ↦
          let within = made_within k (makings s H) (all_numbered s H o.new) h before in
          older_unkept s H h o.new o.gone before (omega (arith, λ (e : generation k h ≡ makes k (makings s H) (owner k h) (row k h)). other e))
      | inr un ↦ o.known h un
    ]

none_below : {A : Type 0} (k : Kind A) (t r n : ℕ) (p : A → Bool) → ((i : ℕ) → i < suc n → p (nth k t r i) ≡ false)
    → list_any p (numbered k t r n) ≡ false
none_below k t r zero p none = refl
none_below k t r (suc n) p none =
    or_from (p (nth k t r (suc n))) (list_any p (numbered k t r n)) (none (suc n) (omega arith)) (none_below k t r n p (λ i lt. none i (omega arith)))

or_none : (b : Bool) → (b || false) ≡ b
or_none true = refl
or_none false = refl

-- another generation of a row than its last
other_nth : {A E : Type 0} (s : Store A E) (H : List E) (t r i : ℕ) → (i ≡ makes s.kind (makings s H) t r → ⊥)
    → generation s.kind (nth s.kind t r i) ≡ makes s.kind (makings s H) (owner s.kind (nth s.kind t r i)) (row s.kind (nth s.kind t r i)) → ⊥
other_nth s H t r i other is =
    let k = s.kind in
    other (sym (generation_nth k t r i) ∙ is ∙ ap (λ n. makes k (makings s H) n (row k (nth k t r i))) (owner_nth k t r i)
    ∙ ap (makes k (makings s H) t) (row_nth k t r i))

kept_numbered : {A E : Type 0} (s : Store A E) (H : List E) (t r n : ℕ) → IsInOrder s H
    → makes s.kind (makings s H) t r ≡ n → list_any (s.is_kept H) (numbered s.kind t r n) ≡ s.is_kept H (nth s.kind t r n)
kept_numbered s H t r zero o is =
    let k = s.kind in
    let none : made k (makings s H) (nth k t r 0) ≡ false =
    false_from_ne_true (made k (makings s H) (nth k t r 0)) (λ before.
    let within = made_within k (makings s H) (all_numbered s H o.new) (nth k t r 0) before in
    let first = generation_nth k t r 0 in
    omega arith)
    in
    sym (o.known (nth k t r 0) none)
kept_numbered s H t r (suc n) o is =
    let k = s.kind in
    ap (λ b. s.is_kept H (nth k t r (suc n)) || b)
    (none_below k t r n (s.is_kept H) (λ i lt. other_unkept s H (nth k t r i) o (other_nth s H t r i (λ e. omega arith))))
    ∙ or_none (s.is_kept H (nth k t r (suc n)))

-- a row has a kept handle where its newest is kept
pub row_kept : {A E : Type 0} (s : Store A E) (H : List E) (t r : ℕ) → IsInOrder s H
    → list_any (s.is_kept H) (handles s.kind (makings s H) t r) ≡ s.is_kept H (newest s.kind (makings s H) t r)
row_kept s H t r o =
    ap (list_any (s.is_kept H)) (handles_numbered s.kind (makings s H) (all_numbered s H o.new) t r)
    ∙ kept_numbered s H t r (makes s.kind (makings s H) t r) o refl

-- a row is free where its newest handle is not kept, and it has generations left
pub free_newest : {A E : Type 0} (s : Store A E) (H : List E) (t r : ℕ) → IsInOrder s H
    → is_free s H t r ≡ (not (s.is_kept H (newest s.kind (makings s H) t r)) && nat_lt (makes s.kind (makings s H) t r) s.generations)
free_newest s H t r o =
    ap (λ b. not b && nat_lt (makes s.kind (makings s H) t r) s.generations) (row_kept s H t r o)

-- a handle that was made is of one of the threads, in one of their rows
pub made_inside : {A E : Type 0} (s : Store A E) (n : ℕ) (H : List E) (h : A) → AllNew s H → AreThreads n (makings s H)
    → made s.kind (makings s H) h ≡ true → (owner s.kind h < n) × (row s.kind h < s.rows)
made_inside s n [] h new callers before = absurd (cc before)
made_inside s n (e ∷ H) h new callers before =
    let k = s.kind in
    elim (or_cases (is_handle k (s.making e).handle h) (made k (makings s H) h) before) [
      | inl here ↦
          let next = made_next k (s.making e) (makings s H) h (all_numbered s (e ∷ H) new) here in
          let free = least_passes s.rows (row k h) (is_free s H (owner k h)) (made_free s e H h new here) in
          let caller = callers.0 in
          (omega arith, free.1)
      | inr earlier ↦ made_inside s n H h new.1 callers.1 earlier
    ]
