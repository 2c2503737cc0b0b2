use Rattle.std.proofs.Common.{◌≡◌, length}
use Rattle.time_cat.specs.Faults.{most_digits, most_bytes, operands_checked}
use Rattle.time_cat.proofs.faults.check_operands.Given as goal

abbrev pub invariant-loop-place : goal.invariant-loop-place
invariant-loop-place l = operands_checked l.takes l.left l.room l.walk ≡ operands_checked l.takes most_digits most_bytes l.values

abbrev pub decreases-loop-place : goal.decreases-loop-place
decreases-loop-place l = length l.walk
