use Rattle.strftime_fields.specs.Answers.{answer}
use Rattle.script_reads.proofs.reads.time_text.Goals as goal

pub returns-in-Err : goal.returns-in-Err
returns-in-Err c = rw (← c.as_bytes.ensures.is) (c.refused_said.ensures (answer c.args.values.now c.args.tm.now c.as_bytes.result.now c.args.max) (rw c.refusal.ensures c.in-Err.ensures))
