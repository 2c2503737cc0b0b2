use Rattle.std.proofs.Common.{◌≡◌, ◌+◌, cond, length}
use Rattle.std.specs.Prelude.{count_by}
use Rattle.src_lines.specs.Atoms.{is_bare}
use Rattle.src_lines.proofs.shape.stands_once.Given as goal

abbrev pub invariant-loop-atom : goal.invariant-loop-atom
invariant-loop-atom l = cond l.stands 1 0 + count_by (is_bare l.byte) l.walk ≡ count_by (is_bare l.byte) l.atoms

abbrev pub decreases-loop-atom : goal.decreases-loop-atom
decreases-loop-atom l = length l.walk
