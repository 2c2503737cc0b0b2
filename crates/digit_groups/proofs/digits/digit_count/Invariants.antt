use Rattle.std.proofs.Common.{◌≡◌, ◌+◌}
use Rattle.digit_groups.specs.Digits.{digit_count}
use Rattle.digit_groups.proofs.digits.digit_count.Given as goal

abbrev pub invariant-loop-left : goal.invariant-loop-left
invariant-loop-left l = l.count + digit_count l.left ≡ digit_count l.n

abbrev pub decreases-loop-left : goal.decreases-loop-left
decreases-loop-left l = l.left
