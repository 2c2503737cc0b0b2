-- Lines of threads, one thread's upon another's, in their order; and a thread's number at which something is chosen.
use Rattle.std.proofs.Common.{◌≡◌, ℕ, zero, suc, ◌+◌, ◌<◌, ◌≤◌, Bool, true, cond, List, [], ◌∷◌, ◌++◌, length, take, map, reverse, refl, sym, ap, subst, ◌∙◌, arith, inl, inr, append_assoc}
use Rattle.std.specs.Prelude.{◌==◌, flat_map, All}
use Rattle.std.specs.List.{range_with_len}
use Rattle.std.proofs.Math.Seq.{take-append_seam}
use Rattle.std.proofs.lemmas.Bool.{ne_eqb}
use Rattle.std.proofs.lemmas.Bool.Decides.{eqb_tells}
use Rattle.std.proofs.lemmas.List.Concat.{flat_map-append}
use Rattle.std.proofs.lemmas.List.{map-append, reverse-append, append-nil}
use Rattle.std.proofs.lemmas.List.Elements.{All-nil, All-cons}
use Rattle.handle_table.specs.Entry.{History, Setting}
use Rattle.script_plan.specs.Plan.{PlanData}
use Rattle.script_run.specs.Timed.{Timed, AreRight, end_of, stacked}

-- the line is of the thread, and of the round, or of one before it
abbrev pub IsOf : ℕ → Timed → Type 0
IsOf thread t = t.task_line.line.thread ≡ thread

abbrev pub IsIn : ℕ → Timed → Type 0
IsIn round t = t.task_line.line.round ≡ round

abbrev pub IsBefore : ℕ → Timed → Type 0
IsBefore round t = t.task_line.line.round < round

pub is_same : (a b : ℕ) → a ≡ b → (a == b) ≡ true
is_same a b e = elim (eqb_tells a b) [ inl h ↦ h.0 | inr h ↦ absurd (h.1 e) ]

-- each line ends within the history for which it is right
pub right_within : (c : Setting) (plan : PlanData) (W : History) (more made : List Timed) → AreRight c plan W (more ++ made) → All (λ (t : Timed). end_of t ≤ length W) more
right_within c plan W [] made right = All-nil (λ (t : Timed). end_of t ≤ length W)
right_within c plan W (t ∷ ts) made right = All-cons (λ (u : Timed). end_of u ≤ length W) t ts right.0.within (right_within c plan W ts made right.1)

-- other lines of the same threads, one thread's upon another's
pub stacked_same : (more others : ℕ → List Timed) (made : List Timed) (n : ℕ) → ((j : ℕ) → j < n → more j ≡ others j) → stacked more made n ≡ stacked others made n
stacked_same more others made zero same = refl
stacked_same more others made (suc n) same =
    ap (λ (ts : List Timed). ts ++ stacked more made n) (same n (omega arith))
    ∙ ap (λ (ts : List Timed). others n ++ ts) (stacked_same more others made n (λ j lt. same j (omega (arith, lt))))

-- ---- in their order

pub range_more : (a n : ℕ) → range_with_len a (suc n) ≡ range_with_len a n ++ (a + n) ∷ []
range_more a zero = ap (λ (m : ℕ). m ∷ []) (omega arith)
range_more a (suc n) = ap (λ (ms : List ℕ). a ∷ ms) (range_more (a + 1) n ∙ ap (λ (m : ℕ). range_with_len (a + 1) n ++ m ∷ []) (omega arith))

pub flat_next : {A : Type 0} (f : ℕ → List A) (n : ℕ) → flat_map f (range_with_len 0 (suc n)) ≡ flat_map f (range_with_len 0 n) ++ f n
flat_next f n =
    ap (λ (ms : List ℕ). flat_map f ms) (range_more 0 n ∙ ap (λ (m : ℕ). range_with_len 0 n ++ m ∷ []) (omega arith))
    ∙ flat_map-append f (range_with_len 0 n) (n ∷ [])
    ∙ ap (λ (ys : List _). flat_map f (range_with_len 0 n) ++ ys) (append-nil (f n))

-- what a map makes of them, the oldest first: of the earlier ones, and then of each thread's
pub stacked_back : {A : Type 0} (f : Timed → A) (more : ℕ → List Timed) (made : List Timed) (n : ℕ)
    → reverse (map f (stacked more made n)) ≡ reverse (map f made) ++ flat_map (λ (j : ℕ). reverse (map f (more j))) (range_with_len 0 n)
stacked_back f more made zero = sym (append-nil (reverse (map f made)))
stacked_back f more made (suc n) =
    let back : ℕ → List _ = λ (j : ℕ). reverse (map f (more j)) in
    ap (λ (ys : List _). reverse ys) (map-append f (more n) (stacked more made n))
    ∙ reverse-append (map f (more n)) (map f (stacked more made n))
    ∙ ap (λ (ys : List _). ys ++ back n) (stacked_back f more made n)
    ∙ append_assoc (reverse (map f made)) (flat_map back (range_with_len 0 n)) (back n)
    ∙ ap (λ (ys : List _). reverse (map f made) ++ ys) (sym (flat_next back n))

-- the same of what f is of each number, where it is this of each below n
pub flat_same : {A : Type 0} (f g : ℕ → List A) (n : ℕ) → ((j : ℕ) → j < n → f j ≡ g j) → flat_map f (range_with_len 0 n) ≡ flat_map g (range_with_len 0 n)
flat_same f g zero same = refl
flat_same f g (suc n) same =
    flat_next f n ∙ ap (λ (ys : List _). ys ++ f n) (flat_same f g n (λ j lt. same j (omega (arith, lt)))) ∙ ap (λ (ys : List _). flat_map g (range_with_len 0 n) ++ ys) (same n (omega arith)) ∙ sym (flat_next g n)

-- ---- where there is something for each number, there is a function that gives it

-- this for the number n, and what f gives for others
abbrev pub and_at : {A : Type 0} → (ℕ → A) → ℕ → A → ℕ → A
and_at f n x j = cond (j == n) x (f j)

pub at_here : {A : Type 0} (f : ℕ → A) (n : ℕ) (x : A) → and_at f n x n ≡ x
at_here f n x = ap (λ (b : Bool). cond b x (f n)) (is_same n n refl)

pub at_other : {A : Type 0} (f : ℕ → A) (n : ℕ) (x : A) (j : ℕ) → j < n → and_at f n x j ≡ f j
at_other f n x j lt = ap (λ (b : Bool). cond b x (f j)) (ne_eqb j n (λ same. omega (arith, same, lt)))

pub record Chosen (A : Type 0) (P : ℕ → A → Type 0) (n : ℕ) : Type 0 where
  pub of : ℕ → A
  pub is : (i : ℕ) → i < n → P i (of i)

pub choose : {A : Type 0} (P : ℕ → A → Type 0) (n : ℕ) (d : A) → ((i : ℕ) → i < n → (x : A) × P i x) → Chosen A P n
choose P zero d each = record { of = λ _. d; is = λ i lt. absurd (omega (arith, lt)) }
choose P (suc n) d each =
    let before = choose P n d (λ i lt. each i (omega (arith, lt))) in
    let last = each n (omega arith) in
    record {
      of = and_at before.of n last.0;
      is = λ i lt. elim (eqb_tells i n) [
        | inl here ↦ subst (λ (k : ℕ). P k (and_at before.of n last.0 k)) (sym here.1) (subst (P n) (sym (at_here before.of n last.0)) last.1)
        | inr apart ↦ let below : i < n = let differs = apart.1 in omega (arith, lt, differs) in subst (P i) (sym (at_other before.of n last.0 i below)) (before.is i below)
      ];
    }

-- ---- a list that was written over the front of another

pub written : {X : Type 0} (n : ℕ) (new rest : List X) → length new ≡ n → take n (new ++ rest) ≡ new
written n new rest long = ap (λ (k : ℕ). take k (new ++ rest)) (sym long) ∙ take-append_seam new rest
