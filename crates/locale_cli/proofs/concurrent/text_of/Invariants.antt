use Rattle.std.proofs.Common.{◌≡◌, ◌++◌, drop}
use Rattle.script_out.specs.Output.{printed}
use Rattle.locale_cli.proofs.concurrent.text_of.Given as goal

-- what is printed, and what is left
abbrev pub invariant-loop-line : goal.invariant-loop-line
invariant-loop-line l = l.text.items ++ printed (drop l.line-index l.lines) l.names ≡ printed l.lines l.names
