use Rattle.std.proofs.Common.{◌≡◌, length}
use Rattle.keywords.specs.Rules.{operands_checked}
use Rattle.keywords.proofs.rules.check_operands.Given as goal

-- no operand so far breaks the rule
abbrev pub invariant-loop-place : goal.invariant-loop-place
invariant-loop-place l = operands_checked l.rule l.walk ≡ operands_checked l.rule l.values

abbrev pub decreases-loop-place : goal.decreases-loop-place
decreases-loop-place l = length l.walk
