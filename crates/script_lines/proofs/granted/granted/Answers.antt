use Rattle.std.proofs.Common.{Ok, Err, refl}
use Rattle.std.proofs.lemmas.Result.{IfOk-weaker}
use Rattle.handle_table.specs.Seen.{op_of}
use Rattle.script_lines.specs.Seen.{caller}
use Rattle.script_wishes.specs.Wishes.{Calls, ReadsOf, Reads, AsksSelection, AsksName}
use Rattle.script_lines.proofs.LineLemmas.{refusal_leaves, selection_leaves, unasked, both_ok}
use Rattle.script_lines.proofs.granted.granted.Goals as goal

pub returns-in-Err-clause-leaves : goal.returns-in-Err-clause-leaves
returns-in-Err-clause-leaves g c =
    λ H M here there. rw c.in-Err.is (unasked (g.B.Board.setting_of c.args.board.now) c.args.library.now c.args.books.now (g.B.Board.later (g.B.Board.setting_of c.args.board.now) (g.B.Side.Side.number_of c.args.side.now)) (g.B.Board.catalogs_later (g.B.Board.setting_of c.args.board.now) (g.B.Side.Side.number_of c.args.side.now)) (g.B.Board.at c.args.board.now c.args.side.now) (g.B.Board.catalogs_at c.args.board.now c.args.side.now) H M (caller c.args.at) (Err c.in-Err.why) c.plain_line.result (λ object. refl) there (refusal_leaves (g.B.Board.setting_of c.args.board.now) c.args.library.now c.args.books.now (g.B.Board.later (g.B.Board.setting_of c.args.board.now) (g.B.Side.Side.number_of c.args.side.now)) (g.B.Board.at c.args.board.now c.args.side.now) H (caller c.args.at) c.in-Err.why c.plain_line.result here (g.met.B.Board.stays c.args.board.now c.args.side.now H here) c.plain_line.ensures))

pub returns-in-Ok-Selection-clause-leaves : goal.returns-in-Ok-Selection-clause-leaves
returns-in-Ok-Selection-clause-leaves g c =
    λ H M here there. rw (c.in-Ok-Selection.is, c.in-Ok-Selection.field-0-is) (unasked (g.B.Board.setting_of c.args.board.now) c.args.library.now c.args.books.now (g.B.Board.later (g.B.Board.setting_of c.args.board.now) (g.B.Side.Side.number_of c.args.side.now)) (g.B.Board.catalogs_later (g.B.Board.setting_of c.args.board.now) (g.B.Side.Side.number_of c.args.side.now)) (g.B.Board.at c.args.board.now c.args.side.now) (g.B.Board.catalogs_at c.args.board.now c.args.side.now) H M (caller c.args.at) (Ok AsksSelection) c.plain_line-in-Ok-Selection.result (λ object. refl) there (selection_leaves (g.B.Board.setting_of c.args.board.now) c.args.library.now c.args.books.now (g.B.Board.later (g.B.Board.setting_of c.args.board.now) (g.B.Side.Side.number_of c.args.side.now)) (g.B.Board.at c.args.board.now c.args.side.now) H (caller c.args.at) (g.B.Side.Side.number_of c.args.side.now) c.selected.result c.plain_line-in-Ok-Selection.result c.requires.caller (c.selected.ensures H (g.met.B.Board.known c.args.board.now c.args.side.now H here)) here (g.met.B.Board.stays c.args.board.now c.args.side.now H here) c.plain_line-in-Ok-Selection.ensures))

pub returns-in-Ok-Call-clause-leaves : goal.returns-in-Ok-Call-clause-leaves
returns-in-Ok-Call-clause-leaves g c =
    rw (c.in-Ok-Call.is, c.in-Ok-Call.field-0-is) (IfOk-weaker c.call_line.result _ _ (λ l both H M here there. unasked (g.B.Board.setting_of c.args.board.now) c.args.library.now c.args.books.now (g.B.Board.later (g.B.Board.setting_of c.args.board.now) (g.B.Side.Side.number_of c.args.side.now)) (g.B.Board.catalogs_later (g.B.Board.setting_of c.args.board.now) (g.B.Side.Side.number_of c.args.side.now)) (g.B.Board.at c.call_line.new.board c.call_line.new.side) (g.B.Board.catalogs_at c.call_line.new.board c.call_line.new.side) H M (caller c.args.at) (Ok (Calls c.in-Ok-Call.categories (op_of c.in-Ok-Call.op))) l (λ object. refl) (both.1 M there) (both.0 c.args.books.now H here)) (both_ok c.call_line.result _ _ c.call_line.ensures.leaves c.call_line.ensures.catalogs))

pub returns-in-Ok-ReadOf-clause-leaves : goal.returns-in-Ok-ReadOf-clause-leaves
returns-in-Ok-ReadOf-clause-leaves g c =
    rw (c.in-Ok-ReadOf.is, c.in-Ok-ReadOf.field-0-is) (IfOk-weaker c.read_of_line.result _ _ (λ l both H M here there. unasked (g.B.Board.setting_of c.args.board.now) c.args.library.now c.args.books.now (g.B.Board.later (g.B.Board.setting_of c.args.board.now) (g.B.Side.Side.number_of c.args.side.now)) (g.B.Board.catalogs_later (g.B.Board.setting_of c.args.board.now) (g.B.Side.Side.number_of c.args.side.now)) (g.B.Board.at c.read_of_line.new.board c.read_of_line.new.side) (g.B.Board.catalogs_at c.read_of_line.new.board c.read_of_line.new.side) H M (caller c.args.at) (Ok (ReadsOf c.in-Ok-ReadOf.named c.in-Ok-ReadOf.read.now)) l (λ object. refl) (both.1 M there) (both.0 c.args.books.now H here)) (both_ok c.read_of_line.result _ _ c.read_of_line.ensures.leaves c.read_of_line.ensures.catalogs))

pub returns-in-Ok-Read-clause-leaves : goal.returns-in-Ok-Read-clause-leaves
returns-in-Ok-Read-clause-leaves g c =
    rw (c.in-Ok-Read.is, c.in-Ok-Read.field-0-is) (IfOk-weaker c.read_line.result _ _ (λ l both H M here there. unasked (g.B.Board.setting_of c.args.board.now) c.args.library.now c.args.books.now (g.B.Board.later (g.B.Board.setting_of c.args.board.now) (g.B.Side.Side.number_of c.args.side.now)) (g.B.Board.catalogs_later (g.B.Board.setting_of c.args.board.now) (g.B.Side.Side.number_of c.args.side.now)) (g.B.Board.at c.read_line.new.board c.read_line.new.side) (g.B.Board.catalogs_at c.read_line.new.board c.read_line.new.side) H M (caller c.args.at) (Ok (Reads c.in-Ok-Read.read.now)) l (λ object. refl) (both.1 M there) (both.0 c.args.books.now H here)) (both_ok c.read_line.result _ _ c.read_line.ensures.leaves c.read_line.ensures.catalogs))

pub returns-in-Ok-Name-clause-leaves : goal.returns-in-Ok-Name-clause-leaves
returns-in-Ok-Name-clause-leaves g c =
    rw (c.in-Ok-Name.is, c.in-Ok-Name.field-0-is) (IfOk-weaker c.name_line.result _ _ (λ l both H M here there. unasked (g.B.Board.setting_of c.args.board.now) c.args.library.now c.args.books.now (g.B.Board.later (g.B.Board.setting_of c.args.board.now) (g.B.Side.Side.number_of c.args.side.now)) (g.B.Board.catalogs_later (g.B.Board.setting_of c.args.board.now) (g.B.Side.Side.number_of c.args.side.now)) (g.B.Board.at c.name_line.new.board c.name_line.new.side) (g.B.Board.catalogs_at c.name_line.new.board c.name_line.new.side) H M (caller c.args.at) (Ok (AsksName c.in-Ok-Name.categories)) l (λ object. refl) (both.1 M there) (both.0 c.args.books.now H here)) (both_ok c.name_line.result _ _ c.name_line.ensures.leaves c.name_line.ensures.catalogs))

pub returns-in-Ok-GetMessage-clause-leaves : goal.returns-in-Ok-GetMessage-clause-leaves
returns-in-Ok-GetMessage-clause-leaves g c =
    rw (c.in-Ok-GetMessage.is, c.in-Ok-GetMessage.field-0-is) (IfOk-weaker c.message_line.result _ _ (λ l leaves. leaves c.args.library.now) c.message_line.ensures.leaves)

pub returns-in-Ok-CloseCatalog-clause-leaves : goal.returns-in-Ok-CloseCatalog-clause-leaves
returns-in-Ok-CloseCatalog-clause-leaves g c =
    rw (c.in-Ok-CloseCatalog.is, c.in-Ok-CloseCatalog.field-0-is) (c.close_line.ensures.leaves c.args.library.now c.args.books.now)
