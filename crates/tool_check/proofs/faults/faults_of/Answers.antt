use Rattle.std.proofs.Common.{◌+◌, refl}
use Rattle.tool_check.proofs.FoundLemmas.{one_more_told}
use Rattle.tool_check.proofs.FaultLemmas.{one_more_each}
use Rattle.tool_check.proofs.faults.faults_of.Goals as goal

pub loop-number-preserved : goal.loop-number-preserved
loop-number-preserved c = record {
  told = one_more_told c.args.first (c.loop-number.number + 1) (c.loop-number.number + 1 + 1) _ _ c.in_ok-fault.fault c.loop-number.invariant.told c.in_ok-push_fault.ensures refl;
  each = one_more_each c.args.sources.now.charmaps c.args.sources.now.locales c.args.first _ _ c.in_ok-fault.fault c.loop-number.invariant.each c.in_ok-fault.ensures c.in_ok-push_fault.ensures;
}
