use Rattle.std.proofs.Common.{◌+◌, All}
use Rattle.tool_check.specs.Found.{AreTold, IsFaultOf}
use Rattle.tool_check.proofs.faults.faults_of.Given as goal

-- the faults so far
abbrev pub invariant-loop-number : goal.invariant-loop-number
invariant-loop-number l = record {
  told : AreTold l.fn.first (l.number + 1) l.faults.items;
  each : All (IsFaultOf l.sources.charmaps l.sources.locales l.fn.first) l.faults.items;
}
