use Rattle.std.proofs.Common.{◌≡◌, ◌+◌, ◌-◌, length, drop}
use Rattle.class_ranges.specs.Ranges.{first_common}
use Rattle.class_ranges.proofs.merge.first_common.Given as goal

abbrev pub invariant-loop-i : goal.invariant-loop-i
invariant-loop-i l = first_common (drop l.i l.ranges) (drop l.j l.others) ≡ first_common l.ranges l.others

abbrev pub decreases-loop-i : goal.decreases-loop-i
decreases-loop-i l = (length l.initial.ranges - l.i) + (length l.initial.others - l.j)
