use Rattle.std.proofs.Common.{sym}
use Rattle.std.proofs.lemmas.Result.{IfOk-weaker}
use Rattle.handle_table.specs.Seen.{reply_of}
use Rattle.script_lines.specs.Seen.{caller}
use Rattle.script_lines.proofs.LineLemmas.{between_leaves, unmade_leaves}
use Rattle.script_lines.proofs.granted.read_between.Goals as goal

pub returns-in-Some-clause-leaves : goal.returns-in-Some-clause-leaves
returns-in-Some-clause-leaves g c =
    λ H here. between_leaves (g.B.Board.setting_of c.args.board.now) (g.B.Board.setting_of c.call.new.self) c.args.library.now g.B.Board.later (g.B.Board.at c.call.new.self c.call.new.side) (g.B.Board.at c.call-in-Some.new.self c.call-in-Some.new.side) H (caller c.args.at) c.args.named c.args.read.now (g.B.Side.Side.number_of c.args.side.now) (g.B.Side.Side.number_of c.call.new.side) c.in_ok-place.place c.in_ok-release-in-Some.release (reply_of c.in_ok-place.reply) (reply_of c.in_ok-release-in-Some.field-0-1) c.in-Some.object.now c.in_ok-said-in-Some.said c.line.result c.requires.caller c.in_ok-place.ensures.number c.in_ok-place.ensures.setting (c.in_ok-place.ensures.answers H here) (sym c.in-Some.ensures) c.in_ok-said-in-Some.ensures c.in_ok-release-in-Some.ensures.answers c.line.ensures

pub returns-clause-leaves : goal.returns-clause-leaves
returns-clause-leaves g c =
    IfOk-weaker c.placed_line.result _ _ (λ l is H here. unmade_leaves (g.B.Board.setting_of c.args.board.now) (g.B.Board.setting_of c.call.new.self) c.args.library.now g.B.Board.later (g.B.Board.at c.call.new.self c.call.new.side) H (caller c.args.at) c.args.named c.args.read.now (g.B.Side.Side.number_of c.args.side.now) (g.B.Side.Side.number_of c.call.new.side) c.in_ok-place.place (reply_of c.in_ok-place.reply) l c.requires.caller c.in_ok-place.ensures.number c.in_ok-place.ensures.setting (c.in_ok-place.ensures.answers H here) (sym c.in-None.ensures) (g.met.B.Board.stays c.call.new.self c.call.new.side) is) c.placed_line.ensures
