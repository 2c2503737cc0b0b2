-- The classes of a value, as bits.
use Rattle.std.proofs.Common.{◌≡◌, ℕ, zero, suc, ◌<◌, ◌≤◌, false, [], ◌∷◌, length, Some, refl, arith}
use Rattle.ctype_classes.specs.Classes.{Classes, has_numbered, numbered_answer}

-- a number that no class has
pub none_from : (classes : Classes) (number w : ℕ) → length classes ≤ number → has_numbered classes number w ≡ false
none_from [] number w above = refl
none_from (class ∷ classes) zero w above = absurd (omega arith)
none_from (class ∷ classes) (suc number) w above = none_from classes number w (omega arith)

-- the number of a class
pub some_below : (classes : Classes) (number w : ℕ) → number < length classes → numbered_answer classes number w ≡ Some (has_numbered classes number w)
some_below [] number w below = absurd (omega arith)
some_below (class ∷ classes) zero w below = refl
some_below (class ∷ classes) (suc number) w below = some_below classes number w (omega arith)
