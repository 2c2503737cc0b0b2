use Rattle.keywords.proofs.CellLemmas.{values_push, all_push}
use Rattle.keywords.proofs.cells.Values.with.Goals as goal

pub returns : goal.returns
returns c = rw (← c.self.view_is) (values_push c.self.inside.pairs.items c.self.inside.bytes.items _ _ c.in_ok-content.ensures.kept c.self.inside.cells.items _ _ _ c.self.invariant c.in_ok-push.ensures.items c.in_ok-content.ensures.is)

pub invariant_of-result : goal.invariant_of-result
invariant_of-result c = all_push c.self.inside.pairs.items c.self.inside.bytes.items _ _ c.in_ok-content.ensures.kept c.self.inside.cells.items _ _ c.self.invariant c.in_ok-push.ensures.items c.in_ok-content.ensures.within
