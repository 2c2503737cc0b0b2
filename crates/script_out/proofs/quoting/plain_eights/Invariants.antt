use Rattle.std.proofs.Common.{◌≡◌, ◌≤◌, take, drop, length}
use Rattle.std.specs.List.{flat_map}
use Rattle.script_out.specs.Output.{escaped}
use Rattle.script_out.proofs.quoting.plain_eights.Given as goal

-- the eights so far stand as they are, and what is left is behind them
abbrev pub invariant-loop-left : goal.invariant-loop-left
invariant-loop-left l = (l.eights ≤ length l.fn.text) × (drop l.eights l.fn.text ≡ l.left) × (flat_map escaped (take l.eights l.fn.text) ≡ take l.eights l.fn.text)

abbrev pub decreases-loop-left : goal.decreases-loop-left
decreases-loop-left l = length l.left
