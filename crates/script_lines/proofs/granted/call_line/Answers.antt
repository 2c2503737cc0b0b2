use Rattle.std.proofs.lemmas.Result.{IfOk-weaker}
use Rattle.handle_table.specs.Seen.{op_of, reply_of}
use Rattle.script_lines.specs.Seen.{caller}
use Rattle.script_lines.proofs.LineLemmas.{call_leaves}
use Rattle.script_lines.proofs.granted.call_line.Goals as goal

pub returns-clause-leaves : goal.returns-clause-leaves
returns-clause-leaves g c =
    IfOk-weaker c.placed_line.result _ _ (λ l is books H here. call_leaves (g.B.Board.setting_of c.args.board.now) c.args.library.now books (g.B.Board.later (g.B.Board.setting_of c.args.board.now) (g.B.Side.Side.number_of c.args.side.now)) (g.B.Board.at c.call.new.self c.call.new.side) H (caller c.args.at) c.args.categories (op_of c.args.op) (g.B.Side.Side.number_of c.args.side.now) c.in_ok-place.place (reply_of c.in_ok-place.reply) l c.requires.caller (c.in_ok-place.ensures.answers H here) is) c.placed_line.ensures
