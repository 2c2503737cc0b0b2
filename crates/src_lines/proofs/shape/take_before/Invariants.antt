use Rattle.std.proofs.Common.{◌≡◌, ◌++◌, length}
use Rattle.src_lines.specs.Shapes.{before_bare, behind_bare}
use Rattle.src_lines.proofs.shape.take_before.Given as goal

abbrev pub invariant-loop-atom : goal.invariant-loop-atom
invariant-loop-atom l = record {
  taken : l.taken ++ before_bare l.byte l.walk ≡ before_bare l.byte l.initial.walk;
  rest : behind_bare l.byte l.walk ≡ behind_bare l.byte l.initial.walk;
}

abbrev pub decreases-loop-atom : goal.decreases-loop-atom
decreases-loop-atom l = length l.walk
