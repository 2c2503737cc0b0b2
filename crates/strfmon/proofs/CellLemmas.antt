-- No cell has more than three parts on a side.
use Rattle.std.proofs.Common.{◌≡◌, ℕ, zero, suc, ◌+◌, ◌*◌, ◌≤◌, List, [], ◌∷◌, length, Bool, true, arith, refl, subst, sym}
use Rattle.std.specs.Prelude.{nat_le, ◌&&◌}
use Rattle.std.specs.List.{list_all}
use Rattle.std.proofs.lemmas.Grind.{common_steps}
use Rattle.std.proofs.lemmas.Bool.Decides.{nat_tests}
use Rattle.strfmon.specs.declared.cells.MoneyPart.{MoneyPart}
use Rattle.strfmon.specs.Cells.{cells, cell, cell_at}

abbrev is_short : List MoneyPart × List MoneyPart → Bool
is_short c = nat_le (length c.0) 3 && nat_le (length c.1) 3

short_at : (cs : List (List MoneyPart × List MoneyPart)) (n : ℕ) → list_all is_short cs ≡ true → is_short (cell_at cs n) ≡ true
short_at [] n all = refl
short_at (c ∷ cs) zero all = grind (arith, common_steps)
short_at (c ∷ cs) (suc n) all = short_at cs n (grind (arith, common_steps))

few_before : (x : List MoneyPart × List MoneyPart) → is_short x ≡ true → length x.0 ≤ 3
few_before x short = grind (arith, nat_tests, common_steps)

few_after : (x : List MoneyPart × List MoneyPart) → is_short x ≡ true → length x.1 ≤ 3
few_after x short = grind (arith, nat_tests, common_steps)

pub short_before : (r : List MoneyPart × List MoneyPart) (p q s : ℕ) → r ≡ cell p q s → length r.0 ≤ 3
unfolding cell
short_before r p q s is =
    let P : List MoneyPart × List MoneyPart → Type 0 = λ x. length x.0 ≤ 3 in
    subst P (sym is) (few_before (cell p q s) (short_at cells (15 * p + 3 * q + s) refl))

pub short_after : (r : List MoneyPart × List MoneyPart) (p q s : ℕ) → r ≡ cell p q s → length r.1 ≤ 3
unfolding cell
short_after r p q s is =
    let P : List MoneyPart × List MoneyPart → Type 0 = λ x. length x.1 ≤ 3 in
    subst P (sym is) (few_after (cell p q s) (short_at cells (15 * p + 3 * q + s) refl))
