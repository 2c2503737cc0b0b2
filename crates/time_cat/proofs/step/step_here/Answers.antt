use Rattle.time_cat.proofs.StepLemmas.{is_step}
use Rattle.time_cat.proofs.step.step_here.Goals as goal

pub returns-clause-stands : goal.returns-clause-stands
returns-clause-stands c = rw c.read.ensures (is_step c.args.format.now c.args.at)
