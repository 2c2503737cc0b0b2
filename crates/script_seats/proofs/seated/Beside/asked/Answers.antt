use Rattle.std.proofs.Common.{refl, subst}
use Rattle.handle_table.specs.Seen.{op_of, reply_of}
use Rattle.script_seats.specs.Seated.{LeavesHolds}
use Rattle.script_seats.proofs.SeatLemmas.{leaves_keep, answers_plain}
use Rattle.script_seats.proofs.seated.Beside.asked.Goals as goal

pub call-requires-clause-goes_on : goal.call-requires-clause-goes_on
call-requires-clause-goes_on g c = λ is. subst LeavesHolds is c.requires.op.1

pub returns : goal.returns
returns g c = record {
  answers = answers_plain c.args.self.now.shared.now c.args.side.now _ (op_of c.args.op) c.call.result.0 (reply_of c.call.result.1)
      c.requires.calls c.call.ensures.made c.call.ensures.in_order refl refl (leaves_keep (op_of c.args.op) c.requires.op.1);
  reader = refl;
}
