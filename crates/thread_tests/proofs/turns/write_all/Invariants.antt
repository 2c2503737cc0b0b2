use Rattle.std.proofs.Common.{◌≡◌, ◌+◌, ◌≤◌, length}
use Rattle.turn_gate.specs.Callers.{IsSeatOf}
use Rattle.thread_tests.proofs.turns.write_all.Given as goal

abbrev pub invariant-loop-number : goal.invariant-loop-number
invariant-loop-number g l = IsSeatOf l.turns l.seat × (l.seat.number ≡ l.fn.seat.number) × (length l.seat.own + l.count ≤ l.turns.terms.quota + l.number)
