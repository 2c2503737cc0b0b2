-- Runs that are looked at atom by atom.
use Rattle.std.proofs.Common.{◌≡◌, ℕ, zero, suc, ◌<◌, Bool, false, List, [], ◌∷◌, ◌++◌, refl, arith}
use Rattle.std.specs.Prelude.{replicate}
use Rattle.src_lines.specs.declared.atom.Atom.{Atom}
use Rattle.src_lines.specs.declared.atom.Atom.TheVariants.{Bare}
use Rattle.src_lines.specs.Shapes.{is_dots, starts, stops}

-- so many bare dots before other atoms
abbrev pub with_dots : ℕ → List Atom → List Atom
with_dots n us = replicate n (Bare 46) ++ us

pub not_dots : (n : ℕ) (us : List Atom) → n < 3 → starts 46 us ≡ false → is_dots (with_dots n us) ≡ false
not_dots zero [] lt h = refl
not_dots zero (a ∷ []) lt h = refl
not_dots zero (a ∷ b ∷ []) lt h = refl
not_dots zero (a ∷ b ∷ c ∷ []) lt h = rw h refl
not_dots zero (a ∷ b ∷ c ∷ d ∷ us) lt h = refl
not_dots (suc zero) [] lt h = refl
not_dots (suc zero) (a ∷ []) lt h = refl
not_dots (suc zero) (a ∷ b ∷ []) lt h = rw h refl
not_dots (suc zero) (a ∷ b ∷ c ∷ us) lt h = refl
not_dots (suc (suc zero)) [] lt h = refl
not_dots (suc (suc zero)) (a ∷ []) lt h = h
not_dots (suc (suc zero)) (a ∷ b ∷ us) lt h = refl
not_dots (suc (suc (suc n))) us lt h = absurd (omega arith)

-- the last atom, where the one before the others is this byte or not
abbrev pub last_is : ℕ → Bool → List Atom → Bool
last_is b before [] = before
last_is b before (u ∷ us) = stops b (u ∷ us)
