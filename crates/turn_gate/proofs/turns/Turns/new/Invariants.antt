use Rattle.std.proofs.Common.{◌≡◌, ◌≤◌, [], map}
use Rattle.std.specs.Vec.{vec_capacity}
use Rattle.std.specs.List.{range_with_len}
use Rattle.turn_gate.specs.Rule.{terms_of, newcomer}
use Rattle.turn_gate.specs.Callers.{first_caller}
use Rattle.turn_gate.proofs.turns.Turns.new.Given as goal

abbrev pub invariant-loop-number : goal.invariant-loop-number
invariant-loop-number g l =
    (l.first.table_id ≡ l.table.shared.table_id)
    × (l.first.me ≡ (newcomer (terms_of g.M.Machine.setting l.table.shared.key), []))
    × (l.seats ≤ vec_capacity l.all)
    × (l.all.items ≡ map (first_caller (record { table = l.table.shared.table_id; terms = terms_of g.M.Machine.setting l.table.shared.key })) (range_with_len 0 l.number))
