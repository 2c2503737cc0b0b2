-- A number of 64 bits is one that can be formatted.
use Rattle.std.proofs.Common.{◌≡◌, true, List, [], ◌∷◌, ◌++◌, ◌^◌, arith}
use Rattle.std.specs.Prelude.{ℤ, pos, negsuc}
use Rattle.std.specs.Int.{w64}
use Rattle.std.specs.Int.RustNames.{FitsSigned}
use Rattle.std.specs.List.{list_all}
use Rattle.std.proofs.lemmas.Bool.{lt-ltb}
use Rattle.std.proofs.lemmas.Int.{ints}
use Rattle.std.proofs.lemmas.List.Folds.{list_all-append}
use Rattle.int_format.specs.Ints.{is_number}

pub fits_number : (n : ℤ) → FitsSigned w64 n → is_number n ≡ true
fits_number (pos n) fits = lt-ltb n (2 ^ 64) (omega (arith, ints))
fits_number (negsuc n) fits = lt-ltb n (2 ^ 63) (omega (arith, ints))

pub one_more_number : (ns : List ℤ) (n : ℤ) → list_all is_number ns ≡ true → FitsSigned w64 n → list_all is_number (ns ++ n ∷ []) ≡ true
one_more_number ns n all fits =
    let one : is_number n ≡ true = fits_number n fits in
    simp (list_all-append, all, one)
