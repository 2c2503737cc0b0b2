use Rattle.std.proofs.Common.{ℕ, List, Option, [], ◌∷◌, ◌++◌, ap, sym, ◌∙◌, zero-add, map}
use Rattle.std.proofs.lemmas.List.FromFn.{map-range_with_len_more}
use Rattle.std.specs.List.{range_with_len}
use Rattle.locale_sources.specs.Seen.{source}
use Rattle.locale_sources.specs.Copies.{step}
use Rattle.locale_sources.proofs.copies.steps.Goals as goal

pub loop-number-preserved : goal.loop-number-preserved
loop-number-preserved c =
    let f = step (map source c.args.sources.now) c.args.category in
    let n = c.loop-number.number in
    c.in_ok-push.ensures.items ∙ (ap (λ (xs : List (Option ℕ)). xs ++ c.step.result ∷ []) c.loop-number.invariant
    ∙ (ap (λ (o : Option ℕ). map f (range_with_len 0 n) ++ o ∷ []) c.step.ensures ∙ sym (map-range_with_len_more f 0 n n (zero-add n))))
