-- Texts of numbers, how wide they are, and refusals.
use Rattle.std.proofs.Common.{◌≡◌, ℕ, ◌+◌, ◌-◌, max, List, ◌++◌, length, arith, refl}
use Rattle.std.specs.Prelude.{ℤ, replicate}
use Rattle.std.proofs.lemmas.List.{length-append, length-replicate}
use Rattle.digit_groups.specs.Groups.{grouped}
use Rattle.numeric_cat.specs.NumericValues.{NumericValues}
use Rattle.int_format.specs.declared.format.IntConversion.{IntConversion}
use Rattle.int_format.specs.declared.layout.Fill.{Fill}
use Rattle.int_format.specs.declared.layout.Fill.TheVariants.{Before, Between, Behind}
use Rattle.digit_groups.specs.Digits.{last_digits}
use Rattle.int_format.specs.Digits.{digit_count}
use Rattle.int_format.specs.Ints.{padded, shown, least_digits, sizes_of, sign_text, fill_of, conversion_text}

-- ---- widths

pub length-padded : (f : Fill) (n : ℕ) (sign digits : List ℕ) → length (padded f n sign digits) ≡ length sign + length digits + n
length-padded Before n sign digits = omega (arith, length-append (replicate n 32) (sign ++ digits), length-append sign digits, length-replicate {A = ℕ} n 32)
length-padded Between n sign digits = omega (arith, length-append sign (replicate n 48 ++ digits), length-append (replicate n 48) digits, length-replicate {A = ℕ} n 48)
length-padded Behind n sign digits = omega (arith, length-append sign (digits ++ replicate n 32), length-append digits (replicate n 32), length-replicate {A = ℕ} n 32)

-- ---- a number laid out

pub laid_text : (n : NumericValues) (c : IntConversion) (v : ℤ) (fill : Fill) (padding : ℕ) (sign : List ℕ) (digits magnitude : ℕ) →
    sign ≡ sign_text c v → fill ≡ fill_of c → magnitude ≡ shown c.signed v → digits ≡ max (digit_count magnitude) (least_digits c) →
    padding ≡ c.width - (length sign + length (grouped (last_digits digits magnitude) (sizes_of n c) n.thousands_sep)) →
    padded fill padding sign (grouped (last_digits digits magnitude) (sizes_of n c) n.thousands_sep) ≡ conversion_text n c v
laid_text n c v fill padding sign digits magnitude s f m d p = rw (p, d, m, s, f) refl
