-- Places of a grid.
use Rattle.std.proofs.Common.{◌≡◌, ℕ, ◌*◌, ◌<◌, length, arith, get_or-set_same, get_or-set_other}
use Rattle.std.proofs.Math.Nat.{mul_comm}
use Rattle.std.proofs.lemmas.Nat.{mul-add-lt, same_from_place}
use Rattle.generations.specs.Grid.{GridData, place, cell, with_cell}

-- the value that was put there
pub cell_here : {A : Type 0} (g : GridData A) (t r : ℕ) (x d : A) → length g.items ≡ g.lines * g.width → t < g.lines → r < g.width
    → cell (with_cell g t r x) t r d ≡ x
cell_here g t r x d full line column =
    let below = mul-add-lt t g.width r g.lines line column in
    let within : place g.width t r < length g.items = omega (arith, mul_comm g.width g.lines) in
    get_or-set_same g.items (place g.width t r) x d within

-- the other values stay
pub cell_elsewhere : {A : Type 0} (g : GridData A) (t r s q : ℕ) (x d : A) → r < g.width → q < g.width → ((s ≡ t) × (q ≡ r) → ⊥)
    → cell (with_cell g t r x) s q d ≡ cell g s q d
cell_elsewhere g t r s q x d column other apart =
    get_or-set_other g.items (place g.width t r) (place g.width s q) x d (λ same.
    apart (same_from_place s q t r g.width other column same))
