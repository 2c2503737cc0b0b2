use Rattle.std.proofs.Common.{arith}
use Rattle.lc_base.proofs.NumberLemmas.{value_too_large}
use Rattle.lc_base.proofs.words.value_of.Goals as goal

pub returns-then-next-from : goal.returns-then-next-from
returns-then-next-from c = value_too_large c.args.digits.now c.loop-digit.digit-index c.loop-digit.value (omega arith) c.loop-digit.invariant.digits c.loop-digit.invariant.rest (omega arith)
