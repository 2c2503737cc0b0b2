use Rattle.std.proofs.Common.{◌≡◌, List, [], ◌∷◌, ◌++◌, Some, sym, ap, ◌∙◌, subst, append_assoc, arith}
use Rattle.std.proofs.lemmas.List.Elements.{All-pop, All-cons, All-weaker}
use Rattle.std.specs.List.{All}
use Rattle.turn_gate.specs.Rule.{terms_of}
use Rattle.turn_gate.specs.Callers.{Gate, Caller, IsSeatOf}
use Rattle.turn_gate.specs.Ends.{IsGathered}
use Rattle.turn_gate.proofs.Views.{no_items}
use Rattle.turn_gate.proofs.close.gather_all.Goals as goal

pub gather-requires-clause-seat : goal.gather-requires-clause-seat
gather-requires-clause-seat g c =
    let gate : Gate g.row.M-Setting.Denot = record { table = c.args.board.now.table_id; terms = terms_of g.M.Machine.setting c.args.board.now.key } in
    (All-pop (IsSeatOf gate) c.loop-seat.rest.items c.pop-in-loop-seat.new.self.items (Some c.in-Some-pop.seat) c.in-Some-pop.ensures.items c.loop-seat.invariant.1).1

pub loop-seat-preserved : goal.loop-seat-preserved
loop-seat-preserved g c =
    let gate : Gate g.row.M-Setting.Denot = record { table = c.args.board.now.table_id; terms = terms_of g.M.Machine.setting c.args.board.now.key } in
    let p = All-pop (IsSeatOf gate) c.loop-seat.rest.items c.pop-in-loop-seat.new.self.items (Some c.in-Some-pop.seat) c.in-Some-pop.ensures.items c.loop-seat.invariant.1 in
    let done = c.loop-seat.invariant.2 in
    let before : List (Caller g.row.M-Setting.Denot g.row.M-Op.Denot g.row.M-Reply.Denot) = c.pop-in-loop-seat.new.self.items in (
      c.gather.ensures.place,
      p.0,
      (
        c.in-Some-pop.seat ∷ done.0,
        done.1 ∙ (ap (λ (xs : List (Caller g.row.M-Setting.Denot g.row.M-Op.Denot g.row.M-Reply.Denot)). xs ++ done.0) c.in-Some-pop.ensures.items ∙ append_assoc before (c.in-Some-pop.seat ∷ []) done.0),
        All-cons (IsGathered c.gather.new.place.me.0) c.in-Some-pop.seat done.0 c.gather.ensures.gathered
            (All-weaker (IsGathered c.loop-seat.place.me.0) (IsGathered c.gather.new.place.me.0) c.gather.ensures.kept done.0 done.2),
      ),
    )

pub returns-clause-gathered : goal.returns-clause-gathered
returns-clause-gathered g c =
    let done = c.loop-seat.invariant.2 in
    let len = c.in_default-pop.ensures.cases.0 in
    let none : c.loop-seat.rest.items ≡ [] = no_items c.loop-seat.rest.items (let ok = c.loop-seat.rest.ok in omega arith) in
    subst (All (IsGathered c.loop-seat.place.me.0)) (sym (done.1 ∙ ap (λ (xs : List (Caller g.row.M-Setting.Denot g.row.M-Op.Denot g.row.M-Reply.Denot)). xs ++ done.0) none)) done.2
