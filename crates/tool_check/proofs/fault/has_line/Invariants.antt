use Rattle.std.proofs.Common.{◌≡◌, drop}
use Rattle.tool_check.specs.Found.{has_line}
use Rattle.tool_check.proofs.fault.has_line.Given as goal

-- no fault so far stands there
abbrev pub invariant-loop-fault : goal.invariant-loop-fault
invariant-loop-fault l = has_line l.line (drop l.fault-index l.faults) ≡ has_line l.line l.faults
