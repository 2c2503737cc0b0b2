-- The table of the powers of ten.
use Rattle.std.proofs.Common.{◌≡◌, ℕ, zero, suc, ◌-◌, ◌^◌, ◌<◌, ◌≤◌, Bool, true, ◌&&◌, T, eqb, get_or, arith, eq-zero-or-pos, eqb→eq, inl, inr}
use lib.Ieee.Fits.{and_l, and_r}
use Rattle.strfmon.specs.declared.decimal.TheConstants.{POWERS}

-- the entries below a number are powers of ten
abbrev are_powers : ℕ → Bool
are_powers zero = true
are_powers (suc e) = eqb (get_or POWERS e 0) (10 ^ e) && are_powers e

below : (n e : ℕ) → T (are_powers n) → e < n → get_or POWERS e 0 ≡ 10 ^ e
below zero e t h = absurd (omega arith)
below (suc n) e t h =
    elim (eq-zero-or-pos (n - e)) [
      | inl z ↦ let same : e ≡ n = omega arith in rw same (eqb→eq _ _ (and_l _ (are_powers n) t))
      | inr g ↦ below n e (and_r _ (are_powers n) t) (omega arith)
    ]

pub power_at : (e : ℕ) → e ≤ 18 → get_or POWERS e 0 ≡ 10 ^ e
power_at e small = below 19 e tt (omega arith)
