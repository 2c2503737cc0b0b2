use Rattle.catalog_handles.specs.Seen.{reply_of}
use Rattle.script_lines.specs.Catalogs.{number_of, not_asked}
use Rattle.script_lines.specs.Seen.{caller}
use Rattle.script_lines.proofs.LineLemmas.{book_asked}
use Rattle.script_lines.proofs.catalog_lines.book_line.Goals as goal

pub returns-in-Some-clause-asked : goal.returns-in-Some-clause-asked
returns-in-Some-clause-asked g c =
    λ H M here there. rw c.in-Some.is (book_asked (g.B.Board.setting_of c.args.board.now) (g.B.Board.later (g.B.Board.setting_of c.args.board.now) (g.B.Side.Side.number_of c.args.side.now)) (g.B.Board.catalogs_later (g.B.Board.setting_of c.args.board.now) (g.B.Side.Side.number_of c.args.side.now)) (g.B.Board.at c.catalog-place.new.self c.catalog-place.new.side) (g.B.Board.catalogs_at c.catalog-place.new.self c.catalog-place.new.side) H M (caller c.args.at) (g.B.Side.Side.number_of c.args.side.now) c.catalog-place.result.0 (number_of c.in-Some.book) c.args.version (reply_of number_of c.catalog-place.result.1) c.handle_reply_shown-said.result c.line.result c.requires.caller (c.catalog-place.ensures.answers H M here there) c.handle_reply_shown-said.ensures c.line.ensures)

pub returns-in-None-clause-asked : goal.returns-in-None-clause-asked
returns-in-None-clause-asked g c =
    λ H M here there. rw c.in-None.is (record {
      asked = not_asked;
      line = c.line-in-None.ensures;
      behind = H;
      is_later = g.met.B.Board.stays c.args.board.now c.args.side.now H here;
      now_at = here;
      left = there;
    })

pub returns-in-None-clause-ready : goal.returns-in-None-clause-ready
returns-in-None-clause-ready g c = λ n r. g.met.B.Board.fewer n c.args.board.now c.args.side.now r
