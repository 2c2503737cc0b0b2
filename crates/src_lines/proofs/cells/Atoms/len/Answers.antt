use Rattle.std.proofs.Common.{◌∙◌, length, ap}
use Rattle.src_lines.proofs.Celling.{count_is}
use Rattle.src_lines.proofs.cells.Atoms.len.Goals as goal

pub returns : goal.returns
returns c = c.end_count.ensures ∙ rw c.deref.ensures.value (count_is _ _ c.self.invariant.same ∙ ap length c.self.view_is)
