-- What holds at each place of the first element and of the others holds of the whole.
use Rattle.std.proofs.Common.{◌≡◌, ℕ, ◌+◌, ◌-◌, ◌<◌, List, ◌++◌, length, refl, sym, ap, subst, ◌∙◌, inl, inr, arith}
use Rattle.std.proofs.lemmas.Bool.{cases_lt}
use Rattle.std.proofs.lemmas.List.{length-append, get_or_append_left, get_or-append-add, get_or-append_right, get_or-set_same, get_or_default, length-set}
use Rattle.std.specs.Prelude.{slice_index_or, slice_set}
use Rattle.script_seats.specs.Places.{AcceptsFrom, ChangesFrom}

module _ {X : Type 0} (P : ℕ → X → Type 0) (base : ℕ) (all xs ys : List X) where
  pub accepts_front : all ≡ xs ++ ys → AcceptsFrom P base all → AcceptsFrom P base xs
  accepts_front e h k d l =
      subst (P (base + k)) (ap (λ zs. slice_index_or zs k d) e ∙ get_or_append_left xs ys d k l) (h k d (omega (arith, l, ap length e, length-append xs ys)))

  pub accepts_back : all ≡ xs ++ ys → length xs ≡ 1 → AcceptsFrom P base all → AcceptsFrom P (base + 1) ys
  accepts_back e one h k d l =
      let at : slice_index_or all (length xs + k) d ≡ slice_index_or ys k d = ap (λ zs. slice_index_or zs (length xs + k) d) e ∙ get_or-append-add xs ys k d in
      let place : base + (length xs + k) ≡ base + 1 + k = omega (arith, one) in
      subst (λ n. P n (slice_index_or ys k d)) place (subst (P (base + (length xs + k))) at (h (length xs + k) d (omega (arith, l, ap length e, length-append xs ys))))

moved : {X : Type 0} (R : ℕ → X → X → Type 0) (i j : ℕ) (x x' y y' : X) → i ≡ j → x ≡ x' → y ≡ y' → R i x y → R j x' y'
moved R i j x x' y y' a b c r = subst (λ k. R k x' y') a (subst (λ u. R i u y') b (subst (R i x) c r))

module _ {X : Type 0} (R : ℕ → X → X → Type 0) (base : ℕ) where
  pub changes_one : (xs : List X) (x y : X) → length xs < 2 → 0 < length xs → R base (slice_index_or xs 0 x) y → ChangesFrom R base xs (slice_set xs 0 y)
  changes_one xs x y short some r =
      record {
        len = length-set xs 0 y;
        each = λ k d l.
            let first : 0 ≡ k = omega (arith, l, short) in
            subst (λ n. R (base + n) (slice_index_or xs n d) (slice_index_or (slice_set xs 0 y) n d)) first
            (moved R base (base + 0) (slice_index_or xs 0 x) (slice_index_or xs 0 d) y (slice_index_or (slice_set xs 0 y) 0 d) (omega arith) (get_or_default xs 0 x d some) (sym (get_or-set_same xs 0 y d some)) r);
      }

  pub changes_both : (all xs ys xs' ys' : List X) → all ≡ xs ++ ys → length xs ≡ 1 → ChangesFrom R base xs xs' → ChangesFrom R (base + 1) ys ys' → ChangesFrom R base all (xs' ++ ys')
  changes_both all xs ys xs' ys' e one a b =
      let whole : length all ≡ length xs + length ys = ap length e ∙ length-append xs ys in
      record {
        len = omega (arith, whole, length-append xs' ys', a.len, b.len);
        each = λ k d l.
            elim (cases_lt k 1) [
              | inl p ↦
                  let old : slice_index_or xs k d ≡ slice_index_or all k d = sym (ap (λ zs. slice_index_or zs k d) e ∙ get_or_append_left xs ys d k (omega (arith, p, one))) in
                  let new : slice_index_or xs' k d ≡ slice_index_or (xs' ++ ys') k d = sym (get_or_append_left xs' ys' d k (omega (arith, p, one, a.len))) in
                  moved R (base + k) (base + k) _ _ _ _ refl old new (a.each k d (omega (arith, p, one)))
              | inr q ↦
                  let old : slice_index_or ys (k - 1) d ≡ slice_index_or all k d = sym (ap (λ zs. slice_index_or zs k d) e ∙ get_or-append_right xs ys 1 k d one q) in
                  let new : slice_index_or ys' (k - 1) d ≡ slice_index_or (xs' ++ ys') k d = sym (get_or-append_right xs' ys' 1 k d (a.len ∙ one) q) in
                  moved R (base + 1 + (k - 1)) (base + k) _ _ _ _ (omega (arith, q)) old new (b.each (k - 1) d (omega (arith, q, l, whole, one)))
            ];
      }
