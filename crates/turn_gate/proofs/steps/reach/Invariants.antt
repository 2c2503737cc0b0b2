use Rattle.turn_gate.proofs.Seats.{IsLater}
use Rattle.turn_gate.proofs.steps.reach.Given as goal

abbrev pub invariant-loop : goal.invariant-loop
invariant-loop g l = IsLater l.initial.place l.place
