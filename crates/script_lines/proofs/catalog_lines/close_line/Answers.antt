use Rattle.catalog_handles.specs.Seen.{reply_of}
use Rattle.script_lines.specs.Catalogs.{number_of}
use Rattle.script_lines.specs.Seen.{caller}
use Rattle.script_lines.proofs.LineLemmas.{close_leaves}
use Rattle.script_lines.proofs.catalog_lines.close_line.Goals as goal

pub returns-clause-leaves : goal.returns-clause-leaves
returns-clause-leaves g c =
    λ library books H M here there. close_leaves (g.B.Board.setting_of c.args.board.now) library books (g.B.Board.later (g.B.Board.setting_of c.args.board.now) (g.B.Side.Side.number_of c.args.side.now)) (g.B.Board.catalogs_later (g.B.Board.setting_of c.args.board.now) (g.B.Side.Side.number_of c.args.side.now)) (g.B.Board.at c.catalog-place.new.self c.catalog-place.new.side) (g.B.Board.catalogs_at c.catalog-place.new.self c.catalog-place.new.side) H M (caller c.args.at) c.args.handle c.handle_meant-h.result (g.B.Side.Side.number_of c.args.side.now) c.catalog-place.result.0 (reply_of number_of c.catalog-place.result.1) c.handle_reply_shown-said.result c.line.result c.requires.caller (g.met.B.Board.stays c.args.board.now c.args.side.now H here) c.handle_meant-h.ensures (c.catalog-place.ensures.answers H M here there) c.handle_reply_shown-said.ensures c.line.ensures
