-- Powers of ten and decimal digits.
use Rattle.std.proofs.Common.{◌≡◌, ℕ, ◌-◌, ◌/◌, ◌%◌, ◌^◌, ◌<◌, ◌≤◌, length, replicate, lit<, arith, refl}
use Rattle.std.proofs.Math.Nat.{pow-le-pow_right, one-le-pow, div-le_self}
use Rattle.std.proofs.lemmas.List.{length-append, length-replicate}
use Rattle.digit_groups.specs.Digits.{last_digits}
use Rattle.digit_groups.proofs.DigitLemmas.{length-last_digits}
use Rattle.lc_base.specs.Amounts.{MoneyAmount}
use Rattle.strfmon.specs.Decimals.{rounded, fraction_digits, fraction_kept, magnitude}

pub few_powers : (e : ℕ) → e ≤ 18 → 10 ^ e ≤ 1000000000000000000
few_powers e small = let most : 10 ^ e ≤ 10 ^ 18 = pow-le-pow_right (lit< tt) small in most

pub some_power : (e : ℕ) → 0 < 10 ^ e
some_power e = let least : 1 ≤ 10 ^ e = one-le-pow e 10 (lit< tt) in least

-- nothing is rounded where nothing is cut off
pub rounded_by_one : (n : ℕ) → rounded n 1 ≡ n
rounded_by_one n =
    let none : n % 1 ≡ 0 = omega arith in
    let whole : n / 1 ≡ n = omega arith in
    rw (none, whole) refl

-- a part of what fits
pub part_fits : (n d : ℕ) → n / d ≤ n
part_fits n d = div-le_self n d

-- ---- the digits

pub length-fraction_digits : (p : ℕ) (a : MoneyAmount) → length (fraction_digits p a) ≡ p
length-fraction_digits p a =
    omega (arith, length-append (last_digits (fraction_kept p a) (magnitude p a)) (replicate (p - fraction_kept p a) 48), length-last_digits (fraction_kept p a) (magnitude p a), length-replicate {A = ℕ} (p - fraction_kept p a) 48)
