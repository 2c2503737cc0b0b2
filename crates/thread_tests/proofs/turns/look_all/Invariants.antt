use Rattle.std.proofs.Common.{◌≡◌}
use Rattle.turn_gate.specs.Callers.{IsSeatOf}
use Rattle.thread_tests.proofs.turns.look_all.Given as goal

abbrev pub invariant-loop : goal.invariant-loop
invariant-loop l = IsSeatOf l.turns l.seat × (l.seat.number ≡ l.fn.seat.number)
