use Rattle.std.proofs.Common.{ℕ, List, ◌++◌, ap, ◌∙◌}
use Rattle.std.specs.BTreeMap.{values}
use Rattle.charset.proofs.FrontLemmas.{placed_settled}
use Rattle.charset.proofs.fronts.Fronts.settle.Goals as goal

pub invariant_of-self : goal.invariant_of-self
invariant_of-self c =
    placed_settled c.self.inside.strings c.self.inside.sorted.items c.in_ok-numbers.numbers.items c.in_ok-self-inside.field-0.items c.self.inside.recent c.new.result c.self.invariant
    (c.in_ok-numbers.ensures ∙ ap (λ (xs : List ℕ). xs ++ values c.self.inside.recent) c.deref.ensures.value) c.in_ok-self-inside.ensures.moved c.in_ok-self-inside.ensures.rising c.new.ensures.empty
