use Rattle.std.proofs.lemmas.Result.{IfOk-weaker}
use Rattle.script_lines.specs.Seen.{caller}
use Rattle.script_lines.proofs.LineLemmas.{held_leaves, unheld_leaves, fewer_by_two}
use Rattle.script_lines.proofs.granted.read_of_line.Goals as goal

pub returns-in-Some-clause-leaves : goal.returns-in-Some-clause-leaves
returns-in-Some-clause-leaves g c =
    IfOk-weaker c.object_line.result _ _ (λ l is books H here. held_leaves (g.B.Board.setting_of c.args.board.now) c.args.library.now books (g.B.Board.later (g.B.Board.setting_of c.args.board.now) (g.B.Side.Side.number_of c.args.side.now)) (g.B.Board.at c.args.board.now c.args.side.now) H (caller c.args.at) c.args.named c.args.read.now (g.B.Side.Side.number_of c.args.side.now) c.in-Some.object.now l c.requires.caller (c.in-Some.ensures H (g.met.B.Board.known c.args.board.now c.args.side.now H here)) here (g.met.B.Board.stays c.args.board.now c.args.side.now H here) is) c.object_line.ensures

pub returns-in-Some-clause-ready : goal.returns-in-Some-clause-ready
returns-in-Some-clause-ready g c =
    IfOk-weaker c.object_line.result _ _ (λ l is. fewer_by_two (λ n. g.B.Board.ready n c.args.board.now c.args.side.now) (λ n r. g.met.B.Board.fewer n c.args.board.now c.args.side.now r)) c.object_line.ensures

pub returns-in-None-clause-leaves : goal.returns-in-None-clause-leaves
returns-in-None-clause-leaves g c =
    IfOk-weaker c.read_between.result _ _ (λ l f books H here. unheld_leaves (g.B.Board.setting_of c.args.board.now) c.args.library.now books (g.B.Board.later (g.B.Board.setting_of c.args.board.now) (g.B.Side.Side.number_of c.args.side.now)) (g.B.Board.at c.read_between.new.board c.read_between.new.side) H (caller c.args.at) c.args.named c.args.read.now (g.B.Side.Side.number_of c.args.side.now) l c.requires.caller (c.in-None.ensures H (g.met.B.Board.known c.args.board.now c.args.side.now H here)) (f H here)) c.read_between.ensures.leaves
