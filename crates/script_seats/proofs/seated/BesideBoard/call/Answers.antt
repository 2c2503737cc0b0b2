use Rattle.std.proofs.Common.{sym, subst}
use Rattle.std.proofs.lemmas.Result.{IfOk-weaker}
use Rattle.turn_gate.specs.Callers.{Gate}
use Rattle.handle_table.specs.Entry.{Setting}
use Rattle.handle_table.specs.Seen.{op_of, reply_of}
use Rattle.script_seats.specs.Seated.{gates, HasCalls}
use Rattle.script_seats.proofs.SeatLemmas.{answers, answers_at, can_less, asking_kept, both_ok}
use Rattle.script_seats.proofs.seated.BesideBoard.call.Goals as goal

pub answer-requires-clause-calls : goal.answer-requires-clause-calls
answer-requires-clause-calls g c = subst (λ (x : Gate Setting). HasCalls 1 x c.args.side.now) (sym c.args.self.now.table_is) c.requires.ready.calls

pub returns-clause-answers : goal.returns-clause-answers
returns-clause-answers g c =
    IfOk-weaker c.answer.result _ _
    (λ r a.
    answers g.G.OneTable.gate c.args.side.now c.answer.new.side (op_of c.args.op) r.0 (reply_of r.1) c.requires.ready.calls
    (answers_at g.G.OneTable.gate c.args.self.now.shared.now c.args.side.now c.answer.new.side (op_of c.args.op) r.0 (reply_of r.1) c.args.self.now.table_is a))
    c.answer.ensures.answers

pub returns-clause-catalogs : goal.returns-clause-catalogs
returns-clause-catalogs g c =
    both_ok c.answer.result _ _ _ c.answer.ensures.answers c.answer.ensures.reader
    (λ r a same. asking_kept g.G.OneTable.desk c.args.side.now c.answer.new.side same a.number)

pub returns-clause-ready : goal.returns-clause-ready
returns-clause-ready g c =
    both_ok c.answer.result _ _ _ c.answer.ensures.answers c.answer.ensures.reader
    (λ r a same.
    can_less (gates g.G.OneTable.gate g.G.OneTable.desk) c.args.side.now c.answer.new.side (op_of c.args.op) r.0 (reply_of r.1)
    (answers_at g.G.OneTable.gate c.args.self.now.shared.now c.args.side.now c.answer.new.side (op_of c.args.op) r.0 (reply_of r.1) c.args.self.now.table_is a) same)
