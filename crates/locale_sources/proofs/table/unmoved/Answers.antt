use Rattle.std.proofs.Common.{ℕ, List, Option, Some, [], ◌∷◌, ◌++◌, ap, sym, ◌∙◌, zero-add}
use Rattle.std.proofs.lemmas.List.FromFn.{map-range_with_len_more}
use Rattle.locale_sources.proofs.table.unmoved.Goals as goal

pub loop-number-preserved : goal.loop-number-preserved
loop-number-preserved c =
    c.in_ok-push.ensures.items ∙ (ap (λ (xs : List (Option ℕ)). xs ++ Some c.loop-number.number ∷ []) c.loop-number.invariant
    ∙ sym (map-range_with_len_more (λ (n : ℕ). Some n) 0 c.loop-number.number c.loop-number.number (zero-add c.loop-number.number)))
