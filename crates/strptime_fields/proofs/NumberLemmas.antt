-- Numbers of at most four digits.
use Rattle.std.proofs.Common.{◌≡◌, ℕ, ◌^◌, ◌<◌, ◌≤◌, Bool, List, length, take, lit<, Option, drop, sym, ap, ap₂, ◌∙◌, arith, length-take}
use Rattle.std.proofs.Math.Nat.{pow-le-pow_right}
use Rattle.std.specs.Char.{is_ascii_digit}
use Rattle.std.specs.List.{prefix_len}
use Rattle.std.proofs.lemmas.List.Folds.{length-prefix_len}
use Rattle.strptime_fields.specs.declared.item.Digits.{Digits}
use Rattle.strptime_fields.specs.Items.{most_digits}
use Rattle.strptime_fields.specs.Reading.{Value, behind_white, leading_digits, within, number}

-- what stands before the fourth digit is small
pub before_last : (n i : ℕ) → n < 10 ^ i → i < 4 → n < 1000
before_last n i below few =
    let last : i ≤ 3 = omega arith in
    let most : 10 ^ i ≤ 10 ^ 3 = pow-le-pow_right (lit< tt) last in
    omega (arith, most, below)

-- ---- digits at the front of a text

prefix_at_most : (p : ℕ → Bool) (xs : List ℕ) → prefix_len p xs ≤ length xs
prefix_at_most p xs = Rattle.std.proofs.lemmas.List.Sums.prefix_len-le-length p xs

-- at most so many
pub at_most : (most : ℕ) (text : List ℕ) → length (leading_digits most text) ≤ most
at_most most text =
    let is = length-prefix_len is_ascii_digit (take most text) in
    omega (arith, is, prefix_at_most is_ascii_digit (take most text), length-take most text)

-- and the text begins with them
take_shorter : (m n : ℕ) (xs : List ℕ) → m ≤ n → take m (take n xs) ≡ take m xs
take_shorter m n xs few = Rattle.std.proofs.lemmas.List.take-take m n xs few

pub front : (most : ℕ) (text : List ℕ) → take (length (leading_digits most text)) text ≡ leading_digits most text
front most text =
    let n = prefix_len is_ascii_digit (take most text) in
    let is : length (leading_digits most text) ≡ n = length-prefix_len is_ascii_digit (take most text) in
    let few : n ≤ most = omega (arith, prefix_at_most is_ascii_digit (take most text), length-take most text) in
    ap (λ (k : ℕ). take k text) is ∙ sym (take_shorter n most text few)

-- a number, from the digits that were cut off
pub number_is : (digits : Digits) (low high : ℕ) (text ds rest : List ℕ) (count : ℕ) (r : Option Value) → count ≡ length (leading_digits (most_digits digits) (behind_white text)) → ds ≡ take count (behind_white text) → rest ≡ drop count (behind_white text)
    → r ≡ within low high ds rest → r ≡ number digits low high text
unfolding number
number_is digits low high text ds rest count r counted cut behind is =
    let left = behind_white text in
    let digits_are = cut ∙ (ap (λ (n : ℕ). take n left) counted ∙ front (most_digits digits) left) in
    is ∙ ap₂ (within low high) digits_are (behind ∙ ap (λ (n : ℕ). drop n left) counted)
