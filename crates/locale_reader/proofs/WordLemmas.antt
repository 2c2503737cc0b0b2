-- Sets of words.
use Rattle.std.proofs.Common.{◌≡◌, ℕ, Bool, true, false, ◌||◌, List, [], ◌∷◌, refl, sym, ◌∙◌, ap, arith}
use Rattle.std.specs.List.{list_any}
use Rattle.std.specs.Str.{bytes_eq}
use Rattle.std.specs.BTreeSet.{insert_key}
use Rattle.std.specs.Ordering.{nat_cmp, is_eq, match_ordering}
use Rattle.std.specs.declared.cmp.Ordering.{Ordering}
use Rattle.std.specs.declared.cmp.Ordering.TheVariants.{Less, Equal, Greater}
use Rattle.std.specs.Cmp.Lexicographic.{slice_cmp}
use Rattle.std.specs.declared.vec.Vec.{Vec}
use Rattle.std.proofs.lemmas.Cmp.{same_from_slice_cmp, nat_list_eq_equiv}
use Rattle.std.proofs.lemmas.Bool.Decides.{nat_tests}

-- bytes are equal where they compare so
pub equal_is : (a b : List ℕ) → is_eq (slice_cmp nat_cmp a b) ≡ bytes_eq a b
equal_is a b = same_from_slice_cmp nat_cmp is_eq bytes_eq refl (λ _ _. refl) (λ _ _. refl) (λ x y xs ys o h. grind (arith, nat_tests)) a b (slice_cmp nat_cmp a b) refl

-- a word is found by its order
pub found_is : {A : Type 0} (ws : List (Vec ℕ A)) (word : List ℕ) → list_any (λ (w : Vec ℕ A). is_eq (slice_cmp nat_cmp word w.items)) ws ≡ list_any (λ (w : Vec ℕ A). bytes_eq w.items word) ws
found_is [] word = refl
found_is {A} (w ∷ ws) word =
    let head : is_eq (slice_cmp nat_cmp word w.items) ≡ bytes_eq w.items word = equal_is word w.items ∙ nat_list_eq_equiv.symm word w.items in
    rw (head, found_is ws word) refl

-- a Bool, one way or the other
or_same : (a b c : Bool) → a ≡ b → (b || c) ≡ (a || (b || c))
or_same true true c h = refl
or_same true false c h = cc
or_same false true c h = refl
or_same false false c h = refl

or_swap : (a b c : Bool) → (b || (a || c)) ≡ (a || (b || c))
or_swap true true c = refl
or_swap true false c = refl
or_swap false true c = refl
or_swap false false c = refl

-- a word that is put in at its place is there, and the others stay
pub inserted_is : {A : Type 0} (ws : List (Vec ℕ A)) (k : Vec ℕ A) (word : List ℕ)
    → list_any (λ (w : Vec ℕ A). bytes_eq w.items word) (insert_key (λ (a : Vec ℕ A) (b : Vec ℕ A). slice_cmp nat_cmp a.items b.items) ws k) ≡ (bytes_eq k.items word || list_any (λ (w : Vec ℕ A). bytes_eq w.items word) ws)
inserted_is [] k word = refl
inserted_is {A} (x ∷ xs) k word =
    let p : Vec ℕ A → Bool = λ w. bytes_eq w.items word in
    let cmp : Vec ℕ A → Vec ℕ A → Ordering = λ a b. slice_cmp nat_cmp a.items b.items in
    let later : list_any p (insert_key cmp xs k) ≡ (p k || list_any p xs) = inserted_is xs k word in
    let P : Ordering → Type 0 = λ o. cmp k x ≡ o → list_any p (match_ordering o (k ∷ x ∷ xs) (x ∷ xs) (x ∷ insert_key cmp xs k)) ≡ (p k || (p x || list_any p xs)) in
    (elim (cmp k x) as P [
      | Less ↦ λ e. refl
      | Equal ↦ λ e.
          let same : bytes_eq k.items x.items ≡ true = sym (equal_is k.items x.items) ∙ ap is_eq e in
          or_same (p k) (p x) (list_any p xs) (nat_list_eq_equiv.congr k.items x.items word same)
      | Greater ↦ λ e. ap (λ (b : Bool). p x || b) later ∙ or_swap (p k) (p x) (list_any p xs)
    ]) refl
