use Rattle.std.proofs.Common.{length, arith, ap}
use Rattle.strfmon.proofs.MoneyLemmas.{length-fraction_text}
use Rattle.strfmon.proofs.layout.fraction_width.Goals as goal

pub returns-clause-is : goal.returns-clause-is
returns-clause-is c = λ a. omega (arith, length-fraction_text c.args.m.now c.args.precision a (omega arith), ap length c.radix_of.ensures)
