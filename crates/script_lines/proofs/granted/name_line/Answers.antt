use Rattle.script_lines.specs.Seen.{caller}
use Rattle.script_lines.proofs.LineLemmas.{name_leaves}
use Rattle.script_lines.proofs.granted.name_line.Goals as goal

pub returns-clause-leaves : goal.returns-clause-leaves
returns-clause-leaves g c =
    λ books H here. name_leaves (g.B.Board.setting_of c.args.board.now) c.args.library.now books (g.B.Board.later (g.B.Board.setting_of c.args.board.now) (g.B.Side.Side.number_of c.args.side.now)) (g.B.Board.at c.global-version.new.self c.global-version.new.side) H (caller c.args.at) c.args.categories c.global-version.result.0 c.global-version.result.1 c.in_ok-name.name c.line.result (c.global-version.ensures.finds H here) c.in_ok-name.ensures c.line.ensures
