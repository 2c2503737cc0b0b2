-- Digits that are read one by one.
use Rattle.std.proofs.Common.{◌≡◌, ℕ, ◌+◌, ◌-◌, ◌*◌, ◌<◌, ◌≤◌, ◌^◌, true, false, List, [], ◌∷◌, length, drop, get_or, None, refl, sym, ap, ◌∙◌, arith}
use Rattle.std.specs.Prelude.{nat_lt}
use Rattle.std.specs.Char.{digit_value, is_ascii_digit}
use Rattle.std.specs.List.{list_all}
use Rattle.std.specs.Str.Parse.{digits_value, digits_value_after}
use Rattle.std.proofs.lemmas.Bool.Decides.{nat_tests}
use Rattle.std.proofs.lemmas.List.{drop_more}
use Rattle.locale_cli.specs.Request.{wide_value}

-- digits make a number no smaller
pub value_after_le : (n : ℕ) (ds : List ℕ) → n ≤ digits_value_after 10 n ds
value_after_le n [] = omega arith
value_after_le n (c ∷ cs) = omega (arith, value_after_le (n * 10 + digit_value c) cs)

digit_is : (c : ℕ) → is_ascii_digit c ≡ true → digit_value c ≡ c - 48
digit_is c h = grind (arith, nat_tests)

too_large : (n : ℕ) → 2 ^ 64 ≤ n → nat_lt n (2 ^ 64) ≡ false
too_large n le = grind (arith, nat_tests)

first_digit : (bytes : List ℕ) (i : ℕ) → i < length bytes → list_all is_ascii_digit (drop i bytes) ≡ true → is_ascii_digit (get_or bytes i 0) ≡ true
first_digit bytes i lt digits =
    let e = rw (drop_more bytes i 0 lt) at digits in
    grind (arith, nat_tests)

-- a digit more makes the number too large
pub value_too_large : (bytes : List ℕ) (i value : ℕ) → i < length bytes → list_all is_ascii_digit (drop i bytes) ≡ true → digits_value_after 10 value (drop i bytes) ≡ digits_value 10 bytes
    → 2 ^ 64 ≤ value * 10 + (get_or bytes i 0 - 48) → None ≡ wide_value bytes
value_too_large bytes i value lt digits so_far large =
    let more : digits_value_after 10 (value * 10 + digit_value (get_or bytes i 0)) (drop (i + 1) bytes) ≡ digits_value 10 bytes = sym (ap (digits_value_after 10 value) (drop_more bytes i 0 lt)) ∙ so_far in
    let le : 2 ^ 64 ≤ digits_value 10 bytes = omega (arith, digit_is (get_or bytes i 0) (first_digit bytes i lt digits), value_after_le (value * 10 + digit_value (get_or bytes i 0)) (drop (i + 1) bytes)) in
    rw (too_large _ le) refl
