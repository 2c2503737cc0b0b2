-- Digits, read one by one.
use Rattle.std.proofs.Common.{◌≡◌, ℕ, suc, ◌+◌, ◌-◌, ◌*◌, ◌<◌, ◌≤◌, ◌^◌, Bool, true, false, List, [], ◌∷◌, length, drop, get_or, Some, None, ◌==◌, zero, cond, not, ◌&&◌, ◌||◌, refl, sym, ap, ◌∙◌, lit<, arith}
use Rattle.std.specs.Prelude.{nat_lt, IfSome}
use Rattle.std.specs.Int.{is_in_range}
use Rattle.std.specs.Str.Parse.{AllDigits}
use Rattle.std.proofs.lemmas.Str.Parse.{numerals_by_value, tells_digits, digits_value_short}
use Rattle.std.proofs.Math.Nat.{pow-le-pow_right}
use Rattle.std.specs.Char.{digit_value, is_ascii_digit}
use Rattle.std.specs.List.{list_all}
use Rattle.std.specs.Str.Parse.{digits_value, digits_value_after}
use Rattle.std.proofs.lemmas.Bool.Decides.{nat_tests}
use Rattle.std.proofs.lemmas.List.{drop_more}
use Rattle.lc_base.specs.Numbers.{small_value, decimal_number, few_digits}

-- digits make a number no smaller
pub value_after_le : (n : ℕ) (ds : List ℕ) → n ≤ digits_value_after 10 n ds
value_after_le n [] = omega arith
value_after_le n (c ∷ cs) = omega (arith, value_after_le (n * 10 + digit_value c) cs)

digit_is : (c : ℕ) → is_ascii_digit c ≡ true → digit_value c ≡ c - 48
digit_is c h = grind (arith, nat_tests)

too_large : (n : ℕ) → 2 ^ 32 ≤ n → nat_lt n (2 ^ 32) ≡ false
too_large n le = grind (arith, nat_tests)

first_digit : (bytes : List ℕ) (i : ℕ) → i < length bytes → list_all is_ascii_digit (drop i bytes) ≡ true → is_ascii_digit (get_or bytes i 0) ≡ true
first_digit bytes i lt digits =
    let e = rw (drop_more bytes i 0 lt) at digits in
    grind (arith, nat_tests)

-- a digit more makes the number too large
pub value_too_large : (bytes : List ℕ) (i value : ℕ) → i < length bytes → list_all is_ascii_digit (drop i bytes) ≡ true → digits_value_after 10 value (drop i bytes) ≡ digits_value 10 bytes
    → 2 ^ 32 ≤ value * 10 + (get_or bytes i 0 - 48) → None ≡ small_value bytes
value_too_large bytes i value lt digits so_far large =
    let more : digits_value_after 10 (value * 10 + digit_value (get_or bytes i 0)) (drop (i + 1) bytes) ≡ digits_value 10 bytes = sym (ap (digits_value_after 10 value) (drop_more bytes i 0 lt)) ∙ so_far in
    let le : 2 ^ 32 ≤ digits_value 10 bytes = omega (arith, digit_is (get_or bytes i 0) (first_digit bytes i lt digits), value_after_le (value * 10 + digit_value (get_or bytes i 0)) (drop (i + 1) bytes)) in
    rw (too_large _ le) refl

-- ---- so many digits

digit_small : (c : ℕ) → is_ascii_digit c ≡ true → digit_value c < 10
digit_small c h = grind (arith, nat_tests)

both_true : (a b : Bool) → (a && b) ≡ true → (a ≡ true) × (b ≡ true)
both_true true true e = (refl, refl)
both_true true false e = absurd (cc)
both_true false b e = absurd (cc)

digits_are : (ds : List ℕ) → list_all is_ascii_digit ds ≡ true → AllDigits 10 ds
digits_are [] e = tt
digits_are (c ∷ cs) e = let k = both_true (is_ascii_digit c) (list_all is_ascii_digit cs) e in (digit_small c k.0, digits_are cs k.1)

-- so many digits are below that power of ten
value_below : (most : ℕ) (ds : List ℕ) → length ds ≤ most → list_all is_ascii_digit ds ≡ true → digits_value 10 ds < 10 ^ most
value_below most ds le all = digits_value_short (numerals_by_value (AllDigits 10) tells_digits) ds most (digits_are ds all) le

is_small : (n : ℕ) → n < 1000000000 → nat_lt n (2 ^ 32) ≡ true
is_small n lt = grind (arith, nat_tests)

nine_fit : (most n : ℕ) → most ≤ 9 → n < 10 ^ most → nat_lt n (2 ^ 32) ≡ true
nine_fit most n le lt =
    let power : 10 ^ most ≤ 10 ^ 9 = pow-le-pow_right (lit< tt) le in
    is_small n (omega (arith, power, lt))

-- the number of digits that are no more than so many
pub few_are_decimal : (most : ℕ) (w : List ℕ) → most ≤ 9 → length w ≤ most → decimal_number w ≡ few_digits most w
unfolding decimal_number few_digits
few_are_decimal most w nine le = chosen (length w) (list_all is_ascii_digit w) (nat_lt (digits_value 10 w) (2 ^ 32)) (digits_value 10 w) le (λ all. nine_fit most (digits_value 10 w) nine (value_below most w le all)) where
  chosen : (n : ℕ) (all small : Bool) (v : ℕ) → n ≤ most → (all ≡ true → small ≡ true)
      → cond ((n == 0) || not all) None (cond small (Some v) None) ≡ cond (is_in_range 1 most n && all) (Some v) None
  chosen zero all small v within fits = refl
  chosen (suc n) false small v within fits = grind (arith, nat_tests)
  chosen (suc n) true small v within fits = rw (fits refl) (grind (arith, nat_tests))

-- more digits than so many
pub too_many : (most : ℕ) (w : List ℕ) → most < length w → None ≡ few_digits most w
unfolding few_digits
too_many most w lt = chosen (length w) lt where
  chosen : (n : ℕ) → most < n → None ≡ cond (is_in_range 1 most n && list_all is_ascii_digit w) (Some (digits_value 10 w)) None
  chosen n over = grind (arith, nat_tests)

-- such a number is below that power of ten
pub few_below : (most : ℕ) (w : List ℕ) → IfSome (few_digits most w) (λ n. n < 10 ^ most)
unfolding few_digits
few_below most w = chosen (is_in_range 1 most (length w)) (list_all is_ascii_digit w) (λ within all. value_below most w (grind (arith, nat_tests)) all) where
  chosen : (a b : Bool) → (a ≡ true → b ≡ true → digits_value 10 w < 10 ^ most) → IfSome (cond (a && b) (Some (digits_value 10 w)) None) (λ n. n < 10 ^ most)
  chosen true true below = below refl refl
  chosen true false below = tt
  chosen false b below = tt
