use Rattle.std.proofs.Common.{◌≡◌, drop}
use Rattle.tool_script.specs.Played.{has_refusal}
use Rattle.tool_script.proofs.played.has_refusal.Given as goal

-- no line so far is refused
abbrev pub invariant-loop-line : goal.invariant-loop-line
invariant-loop-line l = has_refusal (drop l.line-index l.lines) ≡ has_refusal l.lines
