-- The text of parts, one part after another.
use Rattle.std.proofs.Common.{◌≡◌, ℕ, zero, suc, ◌-◌, ◌<◌, ◌≤◌, List, [], ◌∷◌, ◌++◌, length, take, get_or, arith, ap, sym, ◌∙◌}
use Rattle.std.proofs.lemmas.List.{append_assoc, append-nil}
use Rattle.strfmon.specs.declared.cells.MoneyPart.{MoneyPart}
use Rattle.strfmon.specs.Looks.{Look, part_text, parts_text}

parts_next : (l : Look) (ps : List MoneyPart) (k : ℕ) (d : MoneyPart) → k < length ps → parts_text l (take (suc k) ps) ≡ parts_text l (take k ps) ++ part_text l (get_or ps k d)
parts_next l [] k d lt = absurd (omega arith)
parts_next l (p ∷ ps) zero d lt = append-nil (part_text l p)
parts_next l (p ∷ ps) (suc k) d lt =
    ap (λ t. part_text l p ++ t) (parts_next l ps k d (omega arith)) ∙ sym (append_assoc (part_text l p) (parts_text l (take k ps)) (part_text l (get_or ps k d)))

-- parts end with their last one
pub last_part : (l : Look) (ps : List MoneyPart) (n : ℕ) (d : MoneyPart) → 0 < n → n ≤ length ps → parts_text l (take n ps) ≡ parts_text l (take (n - 1) ps) ++ part_text l (get_or ps (n - 1) d)
last_part l ps n d some most =
    let same : suc (n - 1) ≡ n = omega arith in
    ap (λ k. parts_text l (take k ps)) (sym same) ∙ parts_next l ps (n - 1) d (omega arith)
