use Rattle.std.proofs.Common.{◌≡◌, ◌++◌, length}
use Rattle.std.specs.List.{flat_map}
use Rattle.script_out.specs.Output.{escaped}
use Rattle.script_out.proofs.quoting.push_escaped_text.Given as goal

-- what is written, and what is left
abbrev pub invariant-loop-c : goal.invariant-loop-c
invariant-loop-c l = l.out.items ++ flat_map escaped l.left ≡ l.initial.out.items ++ flat_map escaped l.fn.text

abbrev pub decreases-loop-c : goal.decreases-loop-c
decreases-loop-c l = length l.left
