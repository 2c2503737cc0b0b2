use Rattle.std.proofs.Common.{ap, ◌∙◌}
use Rattle.script_lines.specs.Seen.{caller}
use Rattle.script_wishes.specs.Seen.{task_seen, turn_seen, wished}
use Rattle.script_wishes.specs.Wishes.{wish_of}
use Rattle.script_lines.proofs.LineLemmas.{turn_leaves}
use Rattle.script_lines.proofs.granted.turn_line.Goals as goal

pub returns-clause-leaves : goal.returns-clause-leaves
returns-clause-leaves g c = λ H M bounds here there binds.
    turn_leaves (g.B.Board.setting_of c.args.board.now) c.args.library.now c.args.books.now g.B.Side.Side.number_of (g.B.Board.later (g.B.Board.setting_of c.args.board.now)) (g.B.Board.catalogs_later (g.B.Board.setting_of c.args.board.now))
    (g.B.Board.at c.args.board.now) (g.B.Board.at c.granted.new.board) (g.B.Board.catalogs_at c.args.board.now) (g.B.Board.catalogs_at c.granted.new.board) H M bounds c.args.thread.now.lines (turn_seen c.args.turn)
    c.args.thread.now.side c.next_caller-at.new.self.side c.granted.new.side c.bind_said.new.thread.side (caller c.next_caller-at.result) c.args.thread.now.variables (wished c.wish_of-wish.result) c.in_ok-line.line
    c.requires.thread (ap (λ t. t.side) c.next_caller-at.ensures.counted) c.in_ok-bind_said.ensures.side c.next_caller-at.ensures.caller (c.wish_of-wish.ensures ∙ ap (λ t. wish_of c.args.library.now t.variables (task_seen c.args.turn.task)) c.next_caller-at.ensures.counted) binds here there (c.in_ok-line.ensures.leaves H M)
