use Rattle.keywords.proofs.CellLemmas.{all_later}
use Rattle.keywords.proofs.cells.ValueWalk.next.Goals as goal

pub invariant_of-self : goal.invariant_of-self
invariant_of-self c = all_later _ _ c.self.inside.cells.now c.in_ok-cell.rest.now _ c.in_ok-cell.ensures.cases.0 c.self.invariant
