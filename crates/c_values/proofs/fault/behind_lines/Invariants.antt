use Rattle.std.proofs.Common.{◌≡◌}
use Rattle.c_values.specs.Faults.{behind_lines}
use Rattle.c_values.proofs.fault.behind_lines.Given as goal

-- what stands behind the lines that are left
abbrev pub invariant-loop-left : goal.invariant-loop-left
invariant-loop-left l = behind_lines l.left l.rest ≡ behind_lines l.count l.text

abbrev pub decreases-loop-left : goal.decreases-loop-left
decreases-loop-left l = l.left
