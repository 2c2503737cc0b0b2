use Rattle.std.proofs.Common.{◌≡◌, ◌++◌, drop}
use Rattle.std.specs.List.{flat_map}
use Rattle.script_out.specs.Output.{escaped}
use Rattle.script_out.proofs.quoting.push_each_escaped.Given as goal

-- what is written, and what is left
abbrev pub invariant-loop-c : goal.invariant-loop-c
invariant-loop-c l = l.out.items ++ flat_map escaped (drop l.c-index l.text) ≡ l.initial.out.items ++ flat_map escaped l.text
