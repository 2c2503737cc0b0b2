use Rattle.std.proofs.Common.{arith}
use Rattle.locale_reader.proofs.Lists.{several_step}
use Rattle.locale_reader.proofs.value.several.Goals as goal

pub loop-operand-preserved : goal.loop-operand-preserved
loop-operand-preserved c =
    several_step c.args.charset.now c.args.kind c.args.operands.now c.loop-operand.operand-index c.operand-item.result _ _ _ _ (omega arith) c.operand-item.is c.in_ok-value.ensures c.in_ok-values-2.ensures c.loop-operand.invariant
