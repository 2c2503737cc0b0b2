use Rattle.std.proofs.Common.{◌≡◌, ◌++◌, ◌∷◌, length}
use Rattle.src_lines.specs.Cells.{atom_seen}
use Rattle.src_lines.specs.Shapes.{without_last}
use Rattle.src_lines.proofs.shape.take_front.Given as goal

abbrev pub invariant-loop-atom : goal.invariant-loop-atom
invariant-loop-atom l = l.taken ++ without_last (atom_seen l.last ∷ l.walk) ≡ without_last l.fn.walk

abbrev pub decreases-loop-atom : goal.decreases-loop-atom
decreases-loop-atom l = length l.walk
