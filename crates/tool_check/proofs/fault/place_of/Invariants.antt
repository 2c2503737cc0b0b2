use Rattle.std.proofs.Common.{◌≡◌, ◌+◌, drop}
use Rattle.tool_check.specs.Found.{place_of}
use Rattle.tool_check.proofs.fault.place_of.Given as goal

-- all so far stand on lines before
abbrev pub invariant-loop-i : goal.invariant-loop-i
invariant-loop-i l = l.i + place_of l.line (drop l.i l.faults) ≡ place_of l.line l.faults
