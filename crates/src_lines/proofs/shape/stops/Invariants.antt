use Rattle.std.proofs.Common.{◌≡◌, length}
use Rattle.src_lines.specs.Shapes.{stops}
use Rattle.src_lines.proofs.Shaping.{last_is}
use Rattle.src_lines.proofs.shape.stops.Given as goal

abbrev pub invariant-loop-atom : goal.invariant-loop-atom
invariant-loop-atom l = last_is l.byte l.stops l.walk ≡ stops l.byte l.atoms

abbrev pub decreases-loop-atom : goal.decreases-loop-atom
decreases-loop-atom l = length l.walk
