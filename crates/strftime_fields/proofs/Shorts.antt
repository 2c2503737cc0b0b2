-- Pieces of a format that are told at first sight.
use Rattle.std.proofs.Common.{◌≡◌, ℕ, false, eqb, Some, None, refl}
use Rattle.std.proofs.lemmas.Bool.{ne_eqb}
use Rattle.time_cat.specs.declared.conversion.TimeConversion.{TimeConversion}
use Rattle.time_cat.specs.Conversions.{conversion}
use Rattle.time_cat.specs.Formats.{is_modifier}

-- a conversion without a modifier is no E and no O
no_era : (letter : ℕ) (found : TimeConversion) → conversion 0 letter ≡ Some found → letter ≡ 69 → ⊥
unfolding conversion
no_era letter found is here = let none : conversion 0 letter ≡ None = rw here refl in cc

no_digit : (letter : ℕ) (found : TimeConversion) → conversion 0 letter ≡ Some found → letter ≡ 79 → ⊥
unfolding conversion
no_digit letter found is here = let none : conversion 0 letter ≡ None = rw here refl in cc

pub no_modifier : (letter : ℕ) (found : TimeConversion) → conversion 0 letter ≡ Some found → is_modifier letter ≡ false
no_modifier letter found is =
    let e : eqb letter 69 ≡ false = ne_eqb letter 69 (no_era letter found is) in
    let o : eqb letter 79 ≡ false = ne_eqb letter 79 (no_digit letter found is) in
    rw (e, o) refl
