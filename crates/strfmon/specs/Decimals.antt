-- Amounts in decimal digits, rounded half to even (XSH strfmon, right precision; the rounding is our own).
use Rattle.std.specs.Prelude.{◌≡◌, ℕ, ◌+◌, ◌-◌, ◌*◌, ◌/◌, ◌%◌, ◌^◌, nat_lt, ◌==◌, ◌&&◌, ◌||◌, min, unsigned_abs, List, ◌++◌, replicate, if◌then◌else◌}
use Rattle.digit_groups.specs.Digits.{digit_count, last_digits}
use Rattle.strfmon.specs.declared.decimal.Decimal.{Decimal}
use Rattle.lc_base.specs.Amounts.{MoneyAmount}

-- n / d as a whole number: the nearest one, and of two the even one
abbrev pub rounded : ℕ → ℕ → ℕ
rounded n d = if nat_lt (2 * (n % d)) d || (2 * (n % d) == d && (n / d) % 2 == 0) then n / d else n / d + 1

-- how many of p fraction digits an amount has; those behind them are zeros
abbrev pub fraction_kept : ℕ → MoneyAmount → ℕ
fraction_kept p a = min p a.scale

-- the magnitude of an amount in units of its last digit that is kept
abbrev pub magnitude : ℕ → MoneyAmount → ℕ
magnitude p a = rounded (unsigned_abs a.units) (10 ^ (a.scale - fraction_kept p a))

-- the whole digits of an amount, without leading zeros, at least `0`
abbrev pub whole_digits : ℕ → MoneyAmount → List ℕ
whole_digits p a = let n = magnitude p a / 10 ^ fraction_kept p a in last_digits (digit_count n) n

-- its p fraction digits
abbrev pub fraction_digits : ℕ → MoneyAmount → List ℕ
fraction_digits p a = last_digits (fraction_kept p a) (magnitude p a) ++ replicate (p - fraction_kept p a) 48

-- an amount rounded to at most p fraction digits
pub record IsRounded (d : Decimal) (p : ℕ) (a : MoneyAmount) : Type 0 where
  pub kept_is : d.kept ≡ fraction_kept p a
  pub magnitude_is : d.magnitude ≡ magnitude p a
  pub whole_is : d.whole ≡ magnitude p a / 10 ^ fraction_kept p a
