-- How many decimal digits there are.
use Rattle.std.proofs.Common.{◌≡◌, ℕ, ◌+◌, ◌/◌, ◌^◌, ◌<◌, ◌≤◌, length, lit≤, arith, ap}
use Rattle.std.proofs.lemmas.Int.Digits.{length-digits_of_step, length-digits_of-le}
use Rattle.std.specs.Int.Digits.{digits_of}
use Rattle.digit_groups.specs.Digits.{digit_count}

pub some_digits : (n : ℕ) → 1 ≤ digit_count n
some_digits n = omega arith

pub few_digits : (n : ℕ) → n < 2 ^ 64 → digit_count n ≤ 20
few_digits n small =
    let most : length (digits_of 10 n) ≤ 20 = length-digits_of-le 10 20 n (lit≤ tt) (omega arith) in
    omega arith

pub one_digit : (n : ℕ) → n < 10 → digit_count n ≡ 1
one_digit n small =
    let most : length (digits_of 10 n) ≤ 1 = length-digits_of-le 10 1 n (lit≤ tt) (omega arith) in
    omega arith

pub more_digits : (n : ℕ) → 10 ≤ n → digit_count n ≡ digit_count (n / 10) + 1
more_digits n large =
    let whole : length (digits_of 10 n) ≡ length (digits_of 10 (n / 10)) + 1 = length-digits_of_step 10 n (lit≤ tt) (omega arith) in
    let some : 0 < n / 10 = omega arith in
    let part : length (digits_of 10 (n / 10)) ≡ length (digits_of 10 (n / 10 / 10)) + 1 = length-digits_of_step 10 (n / 10) (lit≤ tt) some in
    omega arith

pub two_digits : (n : ℕ) → 10 ≤ n → n < 100 → digit_count n ≡ 2
two_digits n least most = let one : digit_count (n / 10) ≡ 1 = one_digit (n / 10) (omega arith) in omega (arith, more_digits n least)

pub three_digits : (n : ℕ) → 100 ≤ n → n < 1000 → digit_count n ≡ 3
three_digits n least most = let two : digit_count (n / 10) ≡ 2 = two_digits (n / 10) (omega arith) (omega arith) in omega (arith, more_digits n (omega arith))

pub four_digits : (n : ℕ) → 1000 ≤ n → n < 10000 → digit_count n ≡ 4
four_digits n least most = let three : digit_count (n / 10) ≡ 3 = three_digits (n / 10) (omega arith) (omega arith) in omega (arith, more_digits n (omega arith))

pub four_more_digits : (n : ℕ) → 10000 ≤ n → digit_count n ≡ digit_count (n / 10000) + 4
four_more_digits n large =
    let first = more_digits n (omega arith) in
    let second = more_digits (n / 10) (omega arith) in
    let third = more_digits (n / 10 / 10) (omega arith) in
    let fourth = more_digits (n / 10 / 10 / 10) (omega arith) in
    let same : n / 10 / 10 / 10 / 10 ≡ n / 10000 = omega arith in
    let rest : digit_count (n / 10 / 10 / 10 / 10) ≡ digit_count (n / 10000) = ap (λ k. digit_count k) same in
    omega (arith, first, second, third, fourth, rest)
