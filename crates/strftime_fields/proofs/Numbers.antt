-- Numbers of four digits.
use Rattle.std.proofs.Common.{◌≡◌, ℕ, ◌+◌, ◌/◌, ◌%◌, ◌<◌, ◌≤◌, ◌++◌, ◌∷◌, List, [], refl, ap, ◌∙◌, arith}
use Rattle.std.specs.Fmt.{decimal}
use Rattle.std.proofs.lemmas.Fmt.{decimal_digit}
use Rattle.itoa.proofs.Decimal.{pair, decimal_pair, decimal_two}
use Rattle.time_cat.specs.Shown.{last_digit, four}

same_digits : (a a' b c c' d d' : ℕ) → a ≡ a' → c ≡ c' → d ≡ d' → (48 + a) ∷ (48 + b) ∷ (48 + c) ∷ (48 + d) ∷ [] ≡ (48 + a') ∷ (48 + b) ∷ (48 + c') ∷ (48 + d') ∷ []
same_digits a a' b c c' d d' e f g = rw (e, f, g) refl

-- a number from 1000 to 9999 is its four digits
pub four_digits : (n : ℕ) → 1000 ≤ n → n ≤ 9999 → decimal n ≡ four n
four_digits n from to =
    decimal_pair n (omega arith) (omega arith) ∙
    (ap (λ (x : List ℕ). x ++ pair (n % 100)) (decimal_two (n / 100) (omega arith) (omega arith)) ∙
    same_digits (n / 100 / 10) (n / 1000 % 10) (n / 100 % 10) (n % 100 / 10) (n / 10 % 10) (n % 100 % 10) (n % 10) (omega arith) (omega arith) (omega arith))

-- a number below 10 is its last digit
pub one_digit : (n : ℕ) → n < 10 → decimal n ≡ last_digit n ∷ []
one_digit n small = let same : n % 10 ≡ n = omega arith in rw same (decimal_digit n small)
