-- The last digits of numbers, and the numbers before them.
use Rattle.std.proofs.Common.{◌≡◌, ℕ, suc, zero, ◌+◌, ◌-◌, ◌*◌, ◌/◌, ◌%◌, ◌<◌, List, [], ◌∷◌, ◌++◌, length, drop, subst, sym, refl, ap, ◌∙◌, arith}
use Rattle.std.specs.Prelude.{ℤ, pos}
use Rattle.std.proofs.lemmas.List.{append_assoc, append-nil, length-append}
use Rattle.digit_groups.specs.Digits.{last_digits, without_last}
use Rattle.digit_groups.specs.Groups.{separated, separators, before_last}
use Rattle.digit_groups.proofs.GroupLemmas.{IsStep, cut, length-separated}

pub digit_before : (k n : ℕ) → 0 < k → last_digits k n ≡ last_digits (k - 1) (n / 10) ++ (48 + n % 10) ∷ []
unfolding last_digits
digit_before zero n some = absurd (omega arith)
digit_before (suc k) n some = let same : suc k - 1 ≡ k = omega arith in rw same refl

pub without_before : (k n : ℕ) → 0 < k → without_last k n ≡ without_last (k - 1) (n / 10)
unfolding without_last
without_before zero n some = absurd (omega arith)
without_before (suc k) n some = let same : suc k - 1 ≡ k = omega arith in rw same refl

pub length-last_digits : (k n : ℕ) → length (last_digits k n) ≡ k
unfolding last_digits
length-last_digits zero n = refl
length-last_digits (suc k) n = omega (arith, length-append (last_digits k (n / 10)) ((48 + n % 10) ∷ []), length-last_digits k (n / 10))

-- more digits are those of the number before, and the last ones
split_digits : (k c n : ℕ) → last_digits (c + k) n ≡ last_digits k (without_last c n) ++ last_digits c n
unfolding last_digits without_last
split_digits k zero n = let none : 0 + k ≡ k = omega arith in rw none (sym (append-nil (last_digits k n)))
split_digits k (suc c) n =
    let one : suc c + k ≡ suc (c + k) = omega arith in
    rw one (ap (λ t. t ++ (48 + n % 10) ∷ []) (split_digits k c (n / 10)) ∙ append_assoc (last_digits k (without_last c (n / 10))) (last_digits c (n / 10)) ((48 + n % 10) ∷ []))

-- the bytes of a number's grouped digits
pub length-separated_digits : (k n : ℕ) (sizes : List ℤ) (sep : List ℕ) → length (separated (last_digits k n) sizes sep) ≡ k + separators sizes k * length sep
length-separated_digits k n sizes sep = let size : length (last_digits k n) ≡ k = length-last_digits k n in rw size at (length-separated (last_digits k n) sizes sep)

-- one group, and the digits before it
pub number_cut : (sizes : List ℤ) (n s v : ℕ) (sep : List ℕ) → IsStep sizes n s →
    separated (last_digits n v) sizes sep ≡ separated (last_digits (n - s) (without_last s v)) (before_last sizes) sep ++ (sep ++ last_digits s v)
number_cut sizes n s v sep is =
    let front : List ℕ = last_digits (n - s) (without_last s v) in
    let back : List ℕ = last_digits s v in
    let all : s + (n - s) ≡ n = omega (arith, is.less) in
    let whole : front ++ back ≡ last_digits n v = sym (split_digits (n - s) s v) ∙ ap (λ m. last_digits m v) all in
    let some : 0 < length front = omega (arith, is.less, length-last_digits (n - s) (without_last s v)) in
    let P : List ℤ → Type 0 = λ z. separated (last_digits n v) z sep ≡ separated front (before_last z) sep ++ (sep ++ back) in
    let at : P (pos s ∷ drop 1 sizes) = subst (λ (t : List ℕ). separated t (pos s ∷ drop 1 sizes) sep ≡ separated front (before_last (pos s ∷ drop 1 sizes)) sep ++ (sep ++ back)) whole (cut front back s (drop 1 sizes) sep (length-last_digits s v) is.some some) in
    subst P (sym is.head) at
