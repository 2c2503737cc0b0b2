use Rattle.std.proofs.Common.{◌≡◌, length, map}
use Rattle.tool_decimals.specs.Formats.{first_wrong}
use Rattle.tool_decimals.proofs.format.first_wrong.Given as goal

abbrev pub invariant-loop-left : goal.invariant-loop-left
invariant-loop-left l = first_wrong (map (λ w. w.now) l.left) ≡ first_wrong (map (λ w. w.now) l.words)

abbrev pub decreases-loop-left : goal.decreases-loop-left
decreases-loop-left l = length l.left
