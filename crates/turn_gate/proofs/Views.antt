-- Lemmas on the list of views.
use Rattle.std.proofs.Common.{◌≡◌, ◌≢◌, ℕ, zero, suc, ◌⊎◌, List, [], ◌∷◌, ◌++◌, length, arith, set, inl, inr, refl, sym, ap, ◌∙◌, subst, ⊎_elim}
use Rattle.std.proofs.Common.{eqb, cond, eq-eqb, ne_eqb}
use mathlib.Core.Option.{some, some-injective, some-ne-none}
use mathlib.Core.Logic.{dite}
use native.Mathlib.Decide.{ℕ_discrete}
use lib.ListN.{get_elem?}
use Rattle.atomic_table.proofs.Lists.{at_set, set_else}

module _ {A : Type 0} where
  pub no_items : (l : List A) → length l ≡ 0 → l ≡ []
  no_items [] e = refl
  no_items (x ∷ l) e = absurd (omega arith)

  pub set_at : (l : List A) (i : ℕ) (a b : A) → get_elem? l i ≡ some a → get_elem? (set l i b) i ≡ some b
  set_at [] i a b e = absurd (some-ne-none a (sym e))
  set_at (x ∷ xs) zero a b e = refl
  set_at (x ∷ xs) (suc i) a b e = set_at xs i a b e

  pub one_there : (l : List A) (i : ℕ) (a b : A) → get_elem? l i ≡ some a → get_elem? l i ≡ some b → a ≡ b
  one_there l i a b e f = some-injective a b (sym e ∙ f)

  -- a fact of each element, after one of them was written
  pub each_set : (F : ℕ → A → Type 0) (l : List A) (i : ℕ) (b : A) → ((j : ℕ) (u : A) → j ≢ i → get_elem? l j ≡ some u → F j u) → F i b → (j : ℕ) (u : A) → get_elem? (set l i b) j ≡ some u → F j u
  each_set F l i b others mine j u e = ⊎_elim (λ (t : (j ≡ i) × (b ≡ u)). subst (λ (x : ℕ × A). F x.0 x.1) (λ k. (sym t.0 k, t.1 k)) mine)
      (λ (t : (j ≢ i) × (get_elem? l j ≡ some u)). others j u t.0 t.1) (at_set l i j b u e)

  -- an element with a fact is there after a write that keeps the fact at its place
  pub some_set : (F : A → Type 0) (l : List A) (i : ℕ) (a b : A) → get_elem? l i ≡ some a → (F a → F b) → (j : ℕ) (u : A) → get_elem? l j ≡ some u → F u → (w : A) × (get_elem? (set l i b) j ≡ some w) × F w
  some_set F l i a b at keeps j u there fact = dite (ℕ_discrete j i)
      (λ (same : j ≡ i). let is : a ≡ u = one_there l i a u at (ap (get_elem? l) (sym same) ∙ there) in
      (b, ap (get_elem? (set l i b)) same ∙ set_at l i a b at, keeps (subst F (sym is) fact)))
      (λ (apart : j ≢ i). (u, set_else l i j b apart ∙ there, fact))

  -- an element of two lists, one behind the other, is one of the first or of the second
  pub at_append : (l m : List A) (k : ℕ) (a : A) → get_elem? (l ++ m) k ≡ some a → ((j : ℕ) × (get_elem? l j ≡ some a)) ⊎ ((j : ℕ) × (get_elem? m j ≡ some a))
  at_append [] m k a e = inr (k, e)
  at_append (x ∷ l) m zero a e = inl (0, e)
  at_append (x ∷ l) m (suc k) a e = ⊎_elim (λ (t : (j : ℕ) × (get_elem? l j ≡ some a)). inl (suc t.0, t.1)) (λ t. inr t) (at_append l m k a e)

  pub behind : (l m : List A) (k : ℕ) (a : A) → get_elem? m k ≡ some a → (j : ℕ) × (get_elem? (l ++ m) j ≡ some a)
  behind [] m k a e = (k, e)
  behind (x ∷ l) m k a e = let t = behind l m k a e in (suc t.0, t.1)

-- a function with another value at one place
abbrev pub put : (ℕ → ℕ) → ℕ → ℕ → ℕ → ℕ
put f i x n = cond (eqb n i) x (f n)

pub put_here : (f : ℕ → ℕ) (i x n : ℕ) → n ≡ i → put f i x n ≡ x
put_here f i x n is = ap (λ b. cond b x (f n)) (eq-eqb n i is)

pub put_else : (f : ℕ → ℕ) (i x n : ℕ) → n ≢ i → put f i x n ≡ f n
put_else f i x n apart = ap (λ b. cond b x (f n)) (ne_eqb n i apart)
