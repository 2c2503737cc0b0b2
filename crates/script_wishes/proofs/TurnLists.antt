-- Lists that are made for one number after another.
use Rattle.std.proofs.Common.{◌≡◌, ℕ, suc, ◌+◌, ◌-◌, ◌<◌, List, ◌∷◌, ◌++◌, sym, ap, ◌∙◌, arith, append_assoc}
use Rattle.std.specs.Prelude.{flat_map}
use Rattle.std.specs.List.{range_with_len}

-- numbers from one on, of which so many are done

abbrev pub left : ℕ → ℕ → ℕ → List ℕ
left from n done = range_with_len (from + done) (n - done)

pub left_more : (from n done : ℕ) → done < n → left from n done ≡ (from + done) ∷ left from n (done + 1)
left_more from n done lt =
    let more : n - done ≡ suc (n - (done + 1)) = omega arith in
    let next : from + done + 1 ≡ from + (done + 1) = omega arith in
    ap (range_with_len (from + done)) more ∙ ap (λ (a : ℕ). (from + done) ∷ range_with_len a (n - (done + 1))) next

-- what is made for the next number, and then for those that are left
pub flat_more : {A : Type 0} (f : ℕ → List A) (before : List A) (from n done at : ℕ) → at ≡ from + done → done < n → (before ++ f at) ++ flat_map f (left from n (done + 1)) ≡ before ++ flat_map f (left from n done)
flat_more f before from n done at is lt =
    append_assoc before (f at) (flat_map f (left from n (done + 1)))
    ∙ ap (λ (m : ℕ). before ++ (f m ++ flat_map f (left from n (done + 1)))) is
    ∙ ap (λ (ms : List ℕ). before ++ flat_map f ms) (sym (left_more from n done lt))
