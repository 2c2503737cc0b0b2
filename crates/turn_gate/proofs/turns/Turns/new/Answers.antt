use Rattle.std.proofs.Common.{◌≤◌, List, [], ◌∷◌, ◌++◌, length, map, sym, ap, ◌∙◌, subst, arith, zero-add}
use Rattle.std.specs.List.{range_with_len}
use Rattle.std.proofs.lemmas.List.FromFn.{length-map-range_with_len, map-range_with_len_more}
use Rattle.turn_gate.specs.Rule.{terms_of}
use Rattle.turn_gate.specs.Callers.{Gate, Caller, first_caller}
use Rattle.turn_gate.proofs.turns.Turns.new.Goals as goal

pub push_reserved-requires : goal.push_reserved-requires
push_reserved-requires g c =
    let gate : Gate g.row.M-Setting.Denot = record { table = c.in_ok-table.table.shared.table_id; terms = terms_of g.M.Machine.setting c.in_ok-table.table.shared.key } in
    let inv = c.loop-number.invariant in
    let n = ap length inv.3 ∙ length-map-range_with_len (first_caller gate) 0 c.loop-number.number in
    let ok = c.loop-number.all.ok in
    let low = c.loop-number-test.true in
    let enough = inv.2 in omega arith

pub loop-number-preserved : goal.loop-number-preserved
loop-number-preserved g c =
    let gate : Gate g.row.M-Setting.Denot = record { table = c.in_ok-table.table.shared.table_id; terms = terms_of g.M.Machine.setting c.in_ok-table.table.shared.key } in
    let inv = c.loop-number.invariant in
    let first = c.seat.ensures.first in (
      first.0 ∙ inv.0,
      first.1 ∙ inv.1,
      subst (λ n. c.args.seats ≤ n) (sym c.push_reserved.ensures.capacity) inv.2,
      c.push_reserved.ensures.items
          ∙ (ap (λ (xs : List (Caller g.row.M-Setting.Denot g.row.M-Op.Denot g.row.M-Reply.Denot)). xs ++ c.seat.result ∷ []) inv.3
          ∙ (ap (λ (x : Caller g.row.M-Setting.Denot g.row.M-Op.Denot g.row.M-Reply.Denot). map (first_caller gate) (range_with_len 0 c.loop-number.number) ++ x ∷ []) c.seat.ensures.seat
          ∙ sym (map-range_with_len_more (first_caller gate) 0 c.loop-number.number c.loop-number.number (zero-add c.loop-number.number)))),
    )
