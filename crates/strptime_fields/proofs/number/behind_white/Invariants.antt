use Rattle.std.proofs.Common.{◌≡◌, length}
use Rattle.strptime_fields.specs.Reading.{behind_white}
use Rattle.strptime_fields.proofs.number.behind_white.Given as goal

abbrev pub invariant-loop-left : goal.invariant-loop-left
invariant-loop-left l = behind_white l.left ≡ behind_white l.initial.left

abbrev pub decreases-loop-left : goal.decreases-loop-left
decreases-loop-left l = length l.left
