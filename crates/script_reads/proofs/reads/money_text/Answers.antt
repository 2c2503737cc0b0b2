use Rattle.strfmon.specs.Money.{money}
use Rattle.script_reads.proofs.reads.money_text.Goals as goal

pub returns-in-Err : goal.returns-in-Err
returns-in-Err c = rw (← c.as_bytes.ensures.is) (c.refused_said.ensures (money c.args.values.now c.as_bytes.result.now c.args.amounts.now c.args.max) (rw c.refusal.ensures c.in-Err.ensures))
