-- The digits of numbers.
use Rattle.std.proofs.Common.{◌≡◌, ℕ, ◌<◌, ◌≤◌, ◌^◌, List, [], ◌∷◌, ◌++◌, get_or, refl, sym, ap, ◌∙◌, arith}
use Rattle.std.specs.Prelude.{◌/◌, ◌%◌}
use Rattle.std.specs.Fmt.{decimal}
use Rattle.std.proofs.lemmas.Fmt.{decimal_digit, decimal_step}

-- a number of more than one digit: the last one behind the others
pub decimal_parts : (n : ℕ) → 10 ≤ n → n < 2 ^ 64 → decimal (n / 10) ++ decimal (n % 10) ≡ decimal n
decimal_parts n le lt =
    let last : n % 10 < 10 = omega arith in
    sym (decimal_step n le lt ∙ ap (λ (t : List ℕ). decimal (n / 10) ++ t) (sym (decimal_digit (n % 10) last)))

-- two digits, each the text of its number
pub two : (a b : List ℕ) (n : ℕ) → 10 ≤ n → n < 100 → a ≡ decimal (n / 10) → b ≡ decimal (n % 10) → get_or a 0 0 ∷ get_or b 0 0 ∷ [] ≡ decimal n
two a b n le lt first last =
    let high : n / 10 < 10 = omega arith in
    let low : n % 10 < 10 = omega arith in
    let whole = decimal_parts n le (omega arith) in
    rw (first, last, ← whole, decimal_digit (n / 10) high, decimal_digit (n % 10) low) refl

-- three digits, of which the first two are the text of a number
pub three : (a b : List ℕ) (n : ℕ) → 100 ≤ n → n < 1000 → a ≡ decimal (n / 10) → b ≡ decimal (n % 10) → get_or a 0 0 ∷ get_or a 1 0 ∷ get_or b 0 0 ∷ [] ≡ decimal n
three a b n le lt first last =
    let high : n / 10 / 10 < 10 = omega arith in
    let middle : n / 10 % 10 < 10 = omega arith in
    let low : n % 10 < 10 = omega arith in
    let front = decimal_parts (n / 10) (omega arith) (omega arith) in
    let whole = decimal_parts n (omega arith) (omega arith) in
    rw (first, last, ← whole, ← front, decimal_digit (n / 10 / 10) high, decimal_digit (n / 10 % 10) middle, decimal_digit (n % 10) low) refl
