-- Decimal digits.
use Rattle.std.proofs.Common.{◌≡◌, ℕ, suc, zero, ◌+◌, ◌*◌, ◌/◌, ◌%◌, ◌^◌, ◌<◌, ◌≤◌, [], ◌∷◌, ◌++◌, lit≤, arith, ap, ◌∙◌, sym, subst}
use Rattle.std.proofs.Math.Nat.{pow-suc, div-div-eq-div-mul}
use Rattle.std.proofs.lemmas.Int.Digits.{length-digits_of_step, length-digits_of-le, number_digits_of, number_lt, all_below_base_digits_of}
use Rattle.std.specs.Int.Digits.{digits_of}
use Rattle.digit_groups.specs.Digits.{last_digits}
use Rattle.int_format.specs.Digits.{digit_count}

-- ---- how many digits there are

pub few_digits : (n : ℕ) → n < 2 ^ 64 → digit_count n ≤ 20
few_digits n small = length-digits_of-le 10 20 n (lit≤ tt) (omega arith)

pub no_digits : digit_count 0 ≡ 0
no_digits = let most : digit_count 0 ≤ 0 = length-digits_of-le 10 0 0 (lit≤ tt) (omega arith) in omega arith

pub some_digits : (n : ℕ) → 0 < n → 1 ≤ digit_count n
some_digits n some = omega (arith, length-digits_of_step 10 n (lit≤ tt) some)

-- a number is below the power of ten of its digits
pub below_power : (n : ℕ) → n < 10 ^ digit_count n
below_power n = subst (λ (m : ℕ). m < 10 ^ digit_count n) (number_digits_of 10 n (lit≤ tt)) (number_lt 10 (digits_of 10 n) (all_below_base_digits_of 10 n (lit≤ tt)))

-- ---- the digits

pub power_divides : (n k : ℕ) → n / 10 / 10 ^ k ≡ n / 10 ^ suc k
power_divides n k =
    let power : 10 * 10 ^ k ≡ 10 ^ suc k = omega (arith, pow-suc 10 k) in
    div-div-eq-div-mul n 10 (10 ^ k) ∙ ap (λ d. n / d) power

pub divides_power : (n k : ℕ) → n / 10 ^ k / 10 ≡ n / 10 ^ suc k
divides_power n k =
    let power : 10 ^ k * 10 ≡ 10 ^ suc k = omega (arith, pow-suc 10 k) in
    div-div-eq-div-mul n (10 ^ k) 10 ∙ ap (λ d. n / d) power

-- the digits from the first one on
pub digit_first : (k n : ℕ) → last_digits (suc k) n ≡ (48 + n / 10 ^ k % 10) ∷ last_digits k n
unfolding last_digits
digit_first zero n = let same : n / 1 ≡ n = omega arith in ap (λ m. (48 + m % 10) ∷ []) (sym same)
digit_first (suc k) n =
    ap (λ t. t ++ (48 + n % 10) ∷ []) (digit_first k (n / 10))
    ∙ ap (λ m. (48 + m % 10) ∷ (last_digits k (n / 10) ++ (48 + n % 10) ∷ [])) (power_divides n k)
