use Rattle.std.proofs.Common.{◌≡◌, []}
use Rattle.turn_gate.specs.Rule.{terms_of, newcomer}
use Rattle.turn_gate.proofs.open.seat.Given as goal

abbrev pub invariant-loop : goal.invariant-loop
invariant-loop g l = (l.place.table_id ≡ l.board.table_id) × (l.place.me ≡ (newcomer (terms_of g.M.Machine.setting l.board.key), []))
