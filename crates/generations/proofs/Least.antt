-- The least number that passes a test.
use Rattle.std.proofs.Common.{◌≡◌, ℕ, zero, suc, ◌+◌, ◌-◌, ◌<◌, ◌⊎◌, Bool, true, false, Option, None, Some, refl, ap, sym, ◌∙◌, inl, inr, arith}
use Rattle.std.specs.Option.{option_or}
use Rattle.std.specs.Prelude.{if◌then◌else◌}
use Rattle.generations.specs.Least.{least_below}

found_above : (k n r : ℕ) (p : ℕ → Bool) → n ≡ k + suc r → least_below r p ≡ None → p r ≡ true → least_below n p ≡ Some r
found_above zero n r p is none here =
    let next : n ≡ suc r = omega arith in
    ap (λ m. least_below m p) next
    ∙ ap (λ o. option_or o (if p r then Some r else None)) none
    ∙ ap (λ b. if b then Some r else None) here
found_above (suc k) n r p is none here =
    let m : ℕ = k + suc r in
    let next : n ≡ suc m = omega arith in
    ap (λ i. least_below i p) next
    ∙ ap (λ o. option_or o (if p m then Some m else None)) (found_above k m r p refl none here)

-- the least number below r + 1 is the least below any larger number
pub least_below_found : (n r : ℕ) (p : ℕ → Bool) → r < n → least_below r p ≡ None → true ≡ p r → Some r ≡ least_below n p
least_below_found n r p below none here =
    let is : n ≡ (n - suc r) + suc r = omega arith in
    sym (found_above (n - suc r) n r p is none (sym here))

found_or : (n r : ℕ) (b : Bool) (o : Option ℕ) → option_or o (if b then Some n else None) ≡ Some r
    → (o ≡ Some r) ⊎ ((b ≡ true) × (n ≡ r))
found_or n r b (Some k) p = inl p
found_or n r true None p = inr (refl, cc p)
found_or n r false None p = absurd (cc p)

-- the least number that passes a test passes it
pub least_passes : (n r : ℕ) (p : ℕ → Bool) → least_below n p ≡ Some r → (p r ≡ true) × (r < n)
least_passes zero r p is = absurd (cc is)
least_passes (suc n) r p is =
    elim (found_or n r (p n) (least_below n p) is) [
      | inl earlier ↦ let below = least_passes n r p earlier in (below.0, omega arith)
      | inr here ↦ (ap p (sym here.1) ∙ here.0, omega arith)
    ]

-- two tests that agree below n have the same least number below it
pub least_same : (n : ℕ) (p q : ℕ → Bool) → ((r : ℕ) → r < n → p r ≡ q r) → least_below n p ≡ least_below n q
least_same zero p q same = refl
least_same (suc n) p q same =
    ap (λ o. option_or o (if p n then Some n else None)) (least_same n p q (λ r lt. same r (omega arith)))
    ∙ ap (λ b. option_or (least_below n q) (if b then Some n else None)) (same n (omega arith))
