use Rattle.std.proofs.Common.{get_or}
use Rattle.class_ranges.proofs.Joining.{IsJoined}
use Rattle.class_ranges.proofs.merge.merged.Given as goal

abbrev pub invariant-loop-range : goal.invariant-loop-range
invariant-loop-range l = IsJoined (get_or l.sorted 0 (0, 0)) l.ranges.items l.first l.last l.sorted l.range-index
