-- The pins of a handle: one for each thread that selects it, and one for each that holds it.
use Rattle.std.proofs.Common.{◌≡◌, ℕ, zero, suc, ◌+◌, ◌≤◌, ◌<◌, Bool, true, false, [], ◌∷◌, ◌++◌, length, refl, ap, ◌∙◌, inl, inr, arith, length-append, ◌*◌, mul-suc}
use Rattle.std.proofs.lemmas.Bool.{ltb-false, le-ltb, or_parts, or_from, cases_eq}
use Rattle.std.specs.Prelude.{if◌then◌else◌, nat_lt}
use Rattle.lc_base.specs.declared.handle.Handle.{Handle}
use Rattle.handle_table.specs.Entry.{History, Setting, names}
use Rattle.handle_table.specs.History.{live, selection, holding, Selects, Holds, holders_of, holders_below, pins, is_kept}
use Rattle.handle_table.proofs.Gone.{IsGone}

-- one where a test holds, else nothing
abbrev pub bit : Bool → ℕ
bit true = 1
bit false = 0

-- in how many ways a thread holds on to the handle
abbrev pub ways : History → Handle → ℕ → ℕ
ways H h t = bit (names (selection H t) h) + bit (holding H t h)

-- the sum over the numbers below n
abbrev pub sum_below : (ℕ → ℕ) → ℕ → ℕ
sum_below f zero = 0
sum_below f (suc n) = sum_below f n + f n

pub sum_same : (f g : ℕ → ℕ) (n : ℕ) → ((t : ℕ) → t < n → f t ≡ g t) → sum_below f n ≡ sum_below g n
sum_same f g zero same = refl
sum_same f g (suc n) same =
    let below = sum_same f g n (λ t lt. same t (omega arith)) in
    let last = same n (omega arith) in
    omega arith

-- sums that differ at one place alone
pub sum_but_one : (f g : ℕ → ℕ) (w n : ℕ) → w < n → ((t : ℕ) → t < n → (t ≡ w → ⊥) → f t ≡ g t) → sum_below f n + g w ≡ sum_below g n + f w
sum_but_one f g w zero lt same = absurd (omega arith)
sum_but_one f g w (suc n) lt same =
    elim (cases_eq n w) [
      | inl is ↦
          let below : sum_below f n ≡ sum_below g n = sum_same f g n (λ t below. same t (omega arith) (λ e. omega arith)) in
          let at_f : f n ≡ f w = ap f is in
          let at_g : g n ≡ g w = ap g is in
          omega arith
      | inr other ↦
          let below = sum_but_one f g w n (omega arith) (λ t below. same t (omega arith)) in
          let last : f n ≡ g n = same n (omega arith) other in
          omega arith
    ]

-- no part is above the sum
pub part_below : (f : ℕ → ℕ) (w n : ℕ) → w < n → f w ≤ sum_below f n
part_below f w zero lt = absurd (omega arith)
part_below f w (suc n) lt =
    elim (cases_eq n w) [
      | inl is ↦ let here : f n ≡ f w = ap f is in omega arith
      | inr other ↦ let below = part_below f w n (omega arith) in omega arith
    ]

pub sum_none : (f : ℕ → ℕ) (n : ℕ) → ((t : ℕ) → t < n → f t ≡ 0) → sum_below f n ≡ 0
sum_none f zero none = refl
sum_none f (suc n) none =
    let below = sum_none f n (λ t lt. none t (omega arith)) in
    let last = none n (omega arith) in
    omega arith

pub sum_at_most : (f : ℕ → ℕ) (k n : ℕ) → ((t : ℕ) → f t ≤ k) → sum_below f n ≤ k * n
sum_at_most f k zero each = omega arith
sum_at_most f k (suc n) each =
    let below = sum_at_most f k n each in
    let last = each n in
    omega (arith, mul-suc k n)

ways_listed : {A : Type 0} (a b : Bool) (x y : A) → length ((if a then x ∷ [] else []) ++ (if b then y ∷ [] else [])) ≡ bit a + bit b
ways_listed true true x y = refl
ways_listed true false x y = refl
ways_listed false true x y = refl
ways_listed false false x y = refl

holders_counted : (H : History) (h : Handle) (n : ℕ) → length (holders_below H h n) ≡ sum_below (ways H h) n
holders_counted H h zero = refl
holders_counted H h (suc n) =
    let both = length-append (holders_below H h n) (holders_of H h n) in
    let below = holders_counted H h n in
    let last : length (holders_of H h n) ≡ ways H h n = ways_listed (names (selection H n) h) (holding H n h) (n, Selects) (n, Holds) in
    omega arith

-- pins are counted once per thread and way
pub pins_counted : (c : Setting) (H : History) (h : Handle) → pins c H h ≡ sum_below (ways H h) c.threads
pins_counted c H h = holders_counted H h c.threads

bit_none : (b : Bool) → bit b ≡ 0 → b ≡ false
bit_none true p = absurd (omega arith)
bit_none false p = refl

pub bit_few : (b : Bool) → bit b ≤ 1
bit_few true = omega arith
bit_few false = omega arith

-- a handle that is gone has no pins
pub gone_unpinned : (c : Setting) (H : History) (h : Handle) → IsGone c H h → pins c H h ≡ 0
gone_unpinned c H h gone =
    pins_counted c H h ∙ sum_none (ways H h) c.threads (λ t lt.
    let selects : bit (names (selection H t) h) ≡ 0 = ap bit (gone.1 t lt).0 in
    let holds : bit (holding H t h) ≡ 0 = ap bit (gone.1 t lt).1 in
    omega arith)

-- a handle that is gone is not kept
pub gone_unkept : (c : Setting) (H : History) (h : Handle) → IsGone c H h → is_kept c H h ≡ false
gone_unkept c H h gone =
    or_from (live H h) (nat_lt 0 (pins c H h)) gone.0 (le-ltb 0 (pins c H h) (let none = gone_unpinned c H h gone in omega arith))

-- a handle without pins is held on to by no thread
pub unpinned : (c : Setting) (H : History) (h : Handle) (t : ℕ) → pins c H h ≡ 0 → t < c.threads
    → (names (selection H t) h ≡ false) × (holding H t h ≡ false)
unpinned c H h t none lt =
    let all = pins_counted c H h in
    let part = part_below (ways H h) t c.threads lt in (
      bit_none (names (selection H t) h) (omega arith),
      bit_none (holding H t h) (omega arith),
    )

-- a handle that is not kept is gone
pub unkept_gone : (c : Setting) (H : History) (h : Handle) → is_kept c H h ≡ false → IsGone c H h
unkept_gone c H h un =
    let parts = or_parts (live H h) (nat_lt 0 (pins c H h)) un in
    let below = ltb-false 0 (pins c H h) parts.1 in
    (parts.0, λ t lt. unpinned c H h t (omega arith) lt)
