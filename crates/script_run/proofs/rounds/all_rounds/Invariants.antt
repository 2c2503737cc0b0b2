use Rattle.script_seats.specs.Seated.{gates}
use Rattle.script_run.specs.Rounds.{AreBetween, plan_made}
use Rattle.script_run.proofs.rounds.all_rounds.Given as goal

-- the workers have taken the turns of the rounds so far
abbrev pub invariant-loop-i : goal.invariant-loop-i
invariant-loop-i g l = AreBetween (gates l.common.shared.now l.common.catalogs.now) (plan_made l.bundle l.common.library.now l.common.books.now) l.i l.lines.items l.workers.items
