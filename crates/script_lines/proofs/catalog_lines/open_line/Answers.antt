use Rattle.std.specs.Option.{option_map}
use Rattle.script_lines.specs.Catalogs.{number_of}
use Rattle.script_lines.specs.Seen.{caller}
use Rattle.script_lines.proofs.LineLemmas.{own_opens, global_opens}
use Rattle.script_lines.proofs.catalog_lines.open_line.Goals as goal

pub returns-in-Some-clause-leaves : goal.returns-in-Some-clause-leaves
returns-in-Some-clause-leaves g c =
    λ H M here there. own_opens (g.B.Board.setting_of c.args.board.now) c.args.library.now c.args.books.now (g.B.Board.later (g.B.Board.setting_of c.args.board.now) (g.B.Side.Side.number_of c.args.side.now)) (g.B.Board.catalogs_later (g.B.Board.setting_of c.args.board.now) (g.B.Side.Side.number_of c.args.side.now)) (g.B.Board.at c.book_line.new.board c.book_line.new.side) (g.B.Board.catalogs_at c.book_line.new.board c.book_line.new.side) H M (caller c.args.at) c.args.name.now (g.B.Side.Side.number_of c.args.side.now) c.in-Some.own.now (option_map number_of c.book_for-book.result) c.book_line.result c.requires.caller (c.in-Some.ensures H (g.met.B.Board.known c.args.board.now c.args.side.now H here)) (g.met.B.Board.stays c.args.board.now c.args.side.now H here) c.book_for-book.ensures (c.book_line.ensures.asked H M here there)

pub returns-in-None-clause-leaves : goal.returns-in-None-clause-leaves
returns-in-None-clause-leaves g c =
    λ H M here there. global_opens (g.B.Board.setting_of c.args.board.now) (g.B.Board.setting_of c.global-version.new.self) c.args.library.now c.args.books.now g.B.Board.later g.B.Board.catalogs_later (g.B.Board.at c.global-version.new.self c.global-version.new.side) (g.B.Board.at c.book_line-in-None.new.board c.book_line-in-None.new.side) (g.B.Board.catalogs_at c.book_line-in-None.new.board c.book_line-in-None.new.side) H M (caller c.args.at) c.args.name.now (g.B.Side.Side.number_of c.args.side.now) (g.B.Side.Side.number_of c.global-version.new.side) c.global-version.result.0 c.global-version.result.1 (option_map number_of c.book_for-book-in-None.result) c.book_line-in-None.result c.requires.caller c.global-version.ensures.number c.global-version.ensures.setting (c.in-None.ensures H (g.met.B.Board.known c.args.board.now c.args.side.now H here)) (c.global-version.ensures.finds H here) c.book_for-book-in-None.ensures (λ G now. c.book_line-in-None.ensures.asked G M now (c.global-version.ensures.catalogs M there))
