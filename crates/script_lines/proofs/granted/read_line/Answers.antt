use Rattle.std.proofs.lemmas.Result.{IfOk-weaker}
use Rattle.script_lines.specs.Seen.{caller}
use Rattle.script_lines.proofs.LineLemmas.{own_leaves, global_leaves}
use Rattle.script_lines.proofs.granted.read_line.Goals as goal

pub returns-in-Some-clause-leaves : goal.returns-in-Some-clause-leaves
returns-in-Some-clause-leaves g c =
    IfOk-weaker c.object_line.result _ _ (λ l is books H here. own_leaves (g.B.Board.setting_of c.args.board.now) c.args.library.now books (g.B.Board.later (g.B.Board.setting_of c.args.board.now) (g.B.Side.Side.number_of c.args.side.now)) (g.B.Board.at c.args.board.now c.args.side.now) H (caller c.args.at) c.args.read.now (g.B.Side.Side.number_of c.args.side.now) c.in-Some.own.now l c.requires.caller (c.in-Some.ensures H (g.met.B.Board.known c.args.board.now c.args.side.now H here)) here (g.met.B.Board.stays c.args.board.now c.args.side.now H here) is) c.object_line.ensures

pub returns-in_ok-said-in-None-clause-leaves : goal.returns-in_ok-said-in-None-clause-leaves
returns-in_ok-said-in-None-clause-leaves g c =
    λ books H here. global_leaves (g.B.Board.setting_of c.args.board.now) c.args.library.now books (g.B.Board.later (g.B.Board.setting_of c.args.board.now) (g.B.Side.Side.number_of c.args.side.now)) (g.B.Board.at c.global-version.new.self c.global-version.new.side) H (caller c.args.at) c.args.read.now (g.B.Side.Side.number_of c.args.side.now) c.global-version.result.0 c.global-version.result.1 c.in_ok-said-in-None.said c.line.result c.requires.caller (c.in-None.ensures H (g.met.B.Board.known c.args.board.now c.args.side.now H here)) (c.global-version.ensures.finds H here) c.in_ok-said-in-None.ensures c.line.ensures
