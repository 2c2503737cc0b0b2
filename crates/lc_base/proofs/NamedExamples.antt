-- Names with what they name, on examples.
use Rattle.std.proofs.Common.{◌≡◌, ℕ, List, [], ◌∷◌, Some, None, refl}
use Rattle.std.specs.Prelude.{codes}
use Rattle.lc_base.specs.Named.{with_named, place_of}

abbrev two : List (List ℕ × ℕ)
two = (codes "b", 7) ∷ (codes "a", 8) ∷ []

-- a new name goes last
third : with_named two (codes "c") 9 ≡ (codes "b", 7) ∷ (codes "a", 8) ∷ (codes "c", 9) ∷ []
third = refl

-- a name that is there keeps what it has
kept : with_named two (codes "b") 9 ≡ two
kept = refl

second_place : place_of two (codes "a") ≡ Some 1
second_place = refl

-- the first of two places counts
first_place : place_of {A = ℕ} ((codes "a", 1) ∷ (codes "a", 2) ∷ []) (codes "a") ≡ Some 0
first_place = refl

no_place : place_of two (codes "ab") ≡ None
no_place = refl
