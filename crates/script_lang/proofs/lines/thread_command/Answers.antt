use Rattle.std.proofs.Common.{arith, refl}
use Rattle.script_lang.proofs.StepLemmas.{thread_there, command_read}
use Rattle.script_lang.proofs.lines.thread_command.Goals as goal

pub invariant_of-scope : goal.invariant_of-scope
invariant_of-scope c = record {
  some = omega (arith, thread_there 0 c.args.reading.now _ c.in-Some.is c.requires);
  few = c.requires.accepted.few_threads;
}

pub returns-clause-is : goal.returns-clause-is
returns-clause-is c = command_read _ c.args.reading.now _ _ _ _ _ c.in-Some.is (omega arith) c.in_ok-command.ensures.is refl

pub returns-clause-thread : goal.returns-clause-thread
returns-clause-thread c = thread_there 0 c.args.reading.now _ c.in-Some.is c.requires
