use Rattle.std.proofs.Common.{arith}
use Rattle.script_words.proofs.WordLemmas.{too_large_behind}
use Rattle.script_words.proofs.number.number_behind.Goals as goal

pub returns-then-next-from-clause-is : goal.returns-then-next-from-clause-is
returns-then-next-from-clause-is c = too_large_behind c.args.digits.now c.loop-digit.digit-index c.args.before c.loop-digit.value c.args.most (omega arith) c.loop-digit.invariant.digits c.loop-digit.invariant.rest (omega arith)
