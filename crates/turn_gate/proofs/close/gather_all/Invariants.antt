use Rattle.std.proofs.Common.{◌≡◌, List, ◌++◌, vec_len}
use Rattle.std.specs.List.{All}
use Rattle.turn_gate.specs.Rule.{terms_of}
use Rattle.turn_gate.specs.Callers.{Caller, IsSeatOf}
use Rattle.turn_gate.specs.Ends.{Gathering, IsGathered}
use Rattle.turn_gate.proofs.close.gather_all.Given as goal

abbrev pub invariant-loop-seat : goal.invariant-loop-seat
invariant-loop-seat g l =
    Gathering l.board.table_id (terms_of g.M.Machine.setting l.board.key) l.place
    × All (IsSeatOf (record { table = l.board.table_id; terms = terms_of g.M.Machine.setting l.board.key })) l.rest.items
    × ((done : List (Caller g.row.M-Setting.Denot g.row.M-Op.Denot g.row.M-Reply.Denot)) × (l.fn.seats ≡ l.rest.items ++ done) × All (IsGathered l.place.me.0) done)

abbrev pub decreases-loop-seat : goal.decreases-loop-seat
decreases-loop-seat g l = vec_len l.rest
