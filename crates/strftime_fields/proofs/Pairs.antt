-- The table of the numbers from 0 to 99.
use Rattle.std.proofs.Common.{◌≡◌, ℕ, zero, suc, ◌+◌, ◌-◌, ◌*◌, ◌/◌, ◌%◌, ◌<◌, Bool, true, ◌&&◌, T, eqb, List, [], ◌∷◌, ◌++◌, get_or, ap, ◌∙◌, append_assoc, refl, arith, eq-zero-or-pos, eqb→eq, inl, inr}
use lib.Ieee.Fits.{and_l, and_r}
use Rattle.strftime_fields.specs.declared.digits.TheConstants.{PAIRS}
use Rattle.time_cat.specs.Shown.{two, four}

-- the pairs below a number are those of its last two digits
abbrev are_pairs : ℕ → Bool
are_pairs zero = true
are_pairs (suc p) = (eqb (get_or PAIRS (p * 2) 0) (48 + p / 10 % 10) && eqb (get_or PAIRS (p * 2 + 1) 0) (48 + p % 10)) && are_pairs p

below : (n p : ℕ) → T (are_pairs n) → p < n → (get_or PAIRS (p * 2) 0 ≡ 48 + p / 10 % 10) × (get_or PAIRS (p * 2 + 1) 0 ≡ 48 + p % 10)
below zero p t h = absurd (omega arith)
below (suc n) p t h =
    elim (eq-zero-or-pos (n - p)) [
      | inl z ↦ let e : p ≡ n = omega arith in let a = and_l _ (are_pairs n) t in rw e (eqb→eq _ _ (and_l _ _ a), eqb→eq _ _ (and_r _ _ a))
      | inr g ↦ below n p (and_r _ (are_pairs n) t) (omega arith)
    ]

same_pair : (a a' b b' : ℕ) → a ≡ a' → b ≡ b' → (48 + a) ∷ (48 + b) ∷ [] ≡ (48 + a') ∷ (48 + b') ∷ []
same_pair a a' b b' e f = rw (e, f) refl

-- the last two digits of a number below 256 are its pair
pub two_of_pair : (n : ℕ) → n < 256 → get_or PAIRS (n * 2) 0 ∷ get_or PAIRS (n * 2 + 1) 0 ∷ [] ≡ two n
two_of_pair n small =
    let p = below 256 n tt small in
    rw (p.0, p.1) refl

-- and those of any number are those of its rest
pub two_of_rest : (n : ℕ) → two (n % 100) ≡ two n
two_of_rest n = same_pair (n % 100 / 10 % 10) (n / 10 % 10) (n % 100 % 10) (n % 10) (omega arith) (omega arith)

-- the last four are those of two pairs
pub four_of_pairs : (old : List ℕ) (n : ℕ) → (old ++ two (n / 100)) ++ two n ≡ old ++ four n
four_of_pairs old n =
    let e : n / 100 / 10 % 10 ≡ n / 1000 % 10 = omega arith in
    append_assoc old (two (n / 100)) (two n) ∙ ap (λ (d : ℕ). old ++ ((48 + d) ∷ (48 + n / 100 % 10) ∷ (48 + n / 10 % 10) ∷ (48 + n % 10) ∷ [])) e
