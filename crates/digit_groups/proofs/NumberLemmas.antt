-- The number at the front of a text is the value of its digits.
use Rattle.std.proofs.Common.{◌≡◌, ℕ, ◌+◌, ◌-◌, ◌*◌, ◌<◌, ◌≤◌, true, false, cond, List, [], ◌∷◌, length, Option, Some, None, refl, sym, ap, ◌∙◌, arith}
use Rattle.std.specs.Prelude.{nat_lt, nat_le, if◌then◌else◌}
use Rattle.std.specs.Char.{digit_value, is_ascii_digit}
use Rattle.std.specs.Str.Parse.{digits_value_after}
use Rattle.std.proofs.lemmas.Bool.Decides.{nat_tests}
use Rattle.std.proofs.lemmas.List.Sums.{take_while-cons}
use Rattle.digit_groups.specs.Numbers.{further, number_behind, leading_number, leading_digits, small_value}

digit_is : (c : ℕ) → is_ascii_digit c ≡ true → digit_value c ≡ c - 48
digit_is c h = grind (arith, nat_tests)

-- digits make a number no smaller
value_after_le : (v : ℕ) (ds : List ℕ) → v ≤ digits_value_after 10 v ds
value_after_le v [] = omega arith
value_after_le v (c ∷ cs) = omega (arith, value_after_le (v * 10 + digit_value c) cs)

-- ---- the small value of digits behind others of this value

abbrev small_behind : ℕ → List ℕ → Option (ℕ × ℕ)
small_behind v ds = if nat_le (digits_value_after 10 v ds) 255 then Some (digits_value_after 10 v ds, length ds) else None

small_there : (v : ℕ) → v ≤ 255 → Some (v, 0) ≡ small_behind v []
small_there v small =
    let le : nat_le v 255 ≡ true = grind (arith, nat_tests) in
    rw le refl

too_large : (v : ℕ) (ds : List ℕ) → 255 < digits_value_after 10 v ds → None ≡ small_behind v ds
too_large v ds large =
    let gt : nat_le (digits_value_after 10 v ds) 255 ≡ false = grind (arith, nat_tests) in
    rw gt refl

-- one digit more is counted
further_small : (v c : ℕ) (ds : List ℕ) → further 1 (small_behind v ds) ≡ (if nat_le (digits_value_after 10 v ds) 255 then Some (digits_value_after 10 v ds, length (c ∷ ds)) else None)
further_small v c ds =
    elim (nat_le (digits_value_after 10 v ds) 255) as (λ b. further 1 (if b then Some (digits_value_after 10 v ds, length ds) else None) ≡ (if b then Some (digits_value_after 10 v ds, length (c ∷ ds)) else None)) [
      | true ↦ ap (λ n. Some (digits_value_after 10 v ds, n)) (omega arith)
      | false ↦ refl
    ]

with_digit : (v c : ℕ) (ds : List ℕ) → is_ascii_digit c ≡ true → further 1 (small_behind (v * 10 + (c - 48)) ds) ≡ small_behind v (c ∷ ds)
with_digit v c ds is = ap (λ d. further 1 (small_behind (v * 10 + d) ds)) (sym (digit_is c is)) ∙ further_small (v * 10 + digit_value c) c ds

-- ---- one byte after another

digits_end : (c : ℕ) (cs : List ℕ) → is_ascii_digit c ≡ false → leading_digits (c ∷ cs) ≡ []
digits_end c cs is = take_while-cons is_ascii_digit c cs ∙ ap (λ b. cond b (c ∷ leading_digits cs) []) is

digits_more : (c : ℕ) (cs : List ℕ) → is_ascii_digit c ≡ true → leading_digits (c ∷ cs) ≡ c ∷ leading_digits cs
digits_more c cs is = take_while-cons is_ascii_digit c cs ∙ ap (λ b. cond b (c ∷ leading_digits cs) []) is

number_end : (v c : ℕ) (cs : List ℕ) → is_ascii_digit c ≡ false → number_behind v (c ∷ cs) ≡ Some (v, 0)
unfolding number_behind
number_end v c cs is = rw (is, number_behind) refl

number_large : (v c : ℕ) (cs : List ℕ) → is_ascii_digit c ≡ true → nat_lt 255 (v * 10 + (c - 48)) ≡ true → number_behind v (c ∷ cs) ≡ None
unfolding number_behind
number_large v c cs is large = rw (is, number_behind, large) refl

number_more : (v c : ℕ) (cs : List ℕ) → is_ascii_digit c ≡ true → nat_lt 255 (v * 10 + (c - 48)) ≡ false → number_behind v (c ∷ cs) ≡ further 1 (number_behind (v * 10 + (c - 48)) cs)
unfolding number_behind
number_more v c cs is small = rw (is, number_behind, small) refl

behind_digit : (v c : ℕ) (cs : List ℕ) → is_ascii_digit c ≡ true → (v * 10 + (c - 48) ≤ 255 → number_behind (v * 10 + (c - 48)) cs ≡ small_behind (v * 10 + (c - 48)) (leading_digits cs)) →
    number_behind v (c ∷ cs) ≡ small_behind v (c ∷ leading_digits cs)
behind_digit v c cs is rest =
    (elim (nat_lt 255 (v * 10 + (c - 48))) as (λ b. nat_lt 255 (v * 10 + (c - 48)) ≡ b → number_behind v (c ∷ cs) ≡ small_behind v (c ∷ leading_digits cs)) [
      | true ↦ λ large.
          let more : 255 < v * 10 + (c - 48) = grind (arith, nat_tests) in
          number_large v c cs is large ∙ too_large v (c ∷ leading_digits cs) (omega (arith, more, digit_is c is, value_after_le (v * 10 + digit_value c) (leading_digits cs)))
      | false ↦ λ small.
          let most : v * 10 + (c - 48) ≤ 255 = grind (arith, nat_tests) in
          number_more v c cs is small ∙ ap (λ r. further 1 r) (rest most) ∙ with_digit v c (leading_digits cs) is
    ]) refl

number_behind_is : (v : ℕ) (bs : List ℕ) → v ≤ 255 → number_behind v bs ≡ small_behind v (leading_digits bs)
unfolding number_behind
number_behind_is v [] most = small_there v most
number_behind_is v (c ∷ cs) most =
    (elim (is_ascii_digit c) as (λ b. is_ascii_digit c ≡ b → number_behind v (c ∷ cs) ≡ small_behind v (leading_digits (c ∷ cs))) [
      | false ↦ λ is. number_end v c cs is ∙ small_there v most ∙ ap (λ ds. small_behind v ds) (sym (digits_end c cs is))
      | true ↦ λ is. behind_digit v c cs is (λ fits. number_behind_is (v * 10 + (c - 48)) cs fits) ∙ ap (λ ds. small_behind v ds) (sym (digits_more c cs is))
    ]) refl

-- the number at the front of bytes is the small value of their leading digits
pub leading_number_is : (bs : List ℕ) → leading_number bs ≡ small_value (leading_digits bs)
leading_number_is bs = number_behind_is 0 bs (omega arith)
