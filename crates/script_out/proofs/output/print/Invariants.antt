use Rattle.std.proofs.Common.{◌≡◌, ◌++◌, drop}
use Rattle.script_out.specs.Output.{printed}
use Rattle.script_out.proofs.output.print.Given as goal

-- what is printed, and what is left
abbrev pub invariant-loop-line : goal.invariant-loop-line
invariant-loop-line l = l.out.items ++ printed (drop l.line-index l.line-items) l.threads ≡ printed l.lines l.threads
