use Rattle.int_format.specs.Ints.{at_most, ints}
use Rattle.script_reads.proofs.reads.number_text.Goals as goal

pub returns-in-Err : goal.returns-in-Err
returns-in-Err c = rw (← c.as_bytes.ensures.is) (c.refused_said.ensures (at_most c.args.max (ints c.args.values.now c.as_bytes.result.now c.args.numbers.now)) (rw c.refusal.ensures c.in-Err.ensures))
