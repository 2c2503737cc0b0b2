use Rattle.std.proofs.Common.{refl, ◌∙◌}
use Rattle.handle_table.specs.Entry as table
use Rattle.script_seats.proofs.SeatLemmas.{answers_hold, answers_fault}
use Rattle.script_seats.proofs.seated.Beside.hold.Goals as goal

pub returns-in_ok-push-in-Ok : goal.returns-in_ok-push-in-Ok
returns-in_ok-push-in-Ok g c = record {
  answers = answers_hold c.args.self.now.shared.now c.args.side.now _ c.args.h c.in-Ok.place c.in-Ok.held c.share-object.result
      c.requires.calls c.in-Ok.ensures.made c.in-Ok.ensures.in_order c.in-Ok.ensures.handle refl c.in_ok-push-in-Ok.ensures.items (c.share-object.ensures ∙ c.object.ensures);
  reader = refl;
}

pub returns-in-Err : goal.returns-in-Err
returns-in-Err g c = record {
  answers = answers_fault c.args.self.now.shared.now c.args.side.now _ (table.Hold c.args.h) c.in-Err.fault.place c.in-Err.fault.refusal c.refused.result.0 _
      c.requires.calls c.in-Err.ensures.fault c.in-Err.ensures.in_order refl refl c.refused.ensures;
  reader = refl;
}
