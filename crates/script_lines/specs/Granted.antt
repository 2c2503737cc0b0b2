-- What the line of a thread is at a board: a table and its catalogs, whoever answers their calls (our own).
-- The board and what the thread keeps are given as they are before the line and behind it, with what the board says of itself.
use Rattle.std.specs.Prelude.{ℕ, List, Option, Result, Ok}
use Rattle.std.specs.Option.{option_map}
use Rattle.lc_base.specs.declared.handle.Handle.{Handle}
use Rattle.lc_base.specs.declared.handle.Named.{Named}
use Rattle.handle_table.specs.Entry.{History}
use Rattle.catalog_handles.specs.Entry as catalogs
use Rattle.category_store.specs.LibraryData.{LibraryData}
use Rattle.script_commands.specs.declared.command.Read.{Read}
use Rattle.script_out.specs.declared.output.OutLine.{OutLine}
use Rattle.script_out.specs.declared.output.Said.{Said}
use Rattle.script_out.specs.declared.output.Why.{Why}
use Rattle.script_wishes.specs.Turns.{Task, Turn}
use Rattle.script_wishes.specs.Variables.{Bound, bindings_after}
use Rattle.script_wishes.specs.Wishes.{Wish, GetsMessage}
use Rattle.script_wishes.specs.declared.wishes.Wanted.{Wanted}
use Rattle.script_lines.specs.declared.board.Board.{Ghosts as BoardGhosts}
use Rattle.script_lines.specs.declared.board.Side.{Ghosts as SideGhosts}
use Rattle.script_lines.specs.declared.thread.Thread.{Thread}
use Rattle.script_lines.specs.Board.{Leaves, LeavesAsked, LeavesLine, LeavesReadBetween, LeavesTurn}
use Rattle.script_lines.specs.Catalogs.{Books, open_line}
use Rattle.script_lines.specs.Lines.{Caller}
use Rattle.script_lines.specs.Thread.{BindsAs}

module _ {B S : Type 0} (b : BoardGhosts B S) (s : SideGhosts S) where
  -- the line is that of a wish which asks nothing of the catalogs: whatever history of the table the thread was at
  abbrev pub GivesLine : LibraryData → B → S → B → S → Caller → Result Wish Why → OutLine → Type 0
  GivesLine library board side board' side' caller wish l =
      (books : Books) (H : History) → b.at board side H
      → LeavesLine (b.setting_of board) library books (b.later (b.setting_of board) (s.number_of side)) (b.at board' side') H caller wish l

  -- the line is that of a read of what is named, of which the thread has no open Hold
  abbrev pub ReadsBetween : LibraryData → B → S → B → S → Caller → Named → Read → OutLine → Type 0
  ReadsBetween library board side board' side' caller named read l =
      (H : History) → b.at board side H
      → LeavesReadBetween (b.setting_of board) library (b.later (b.setting_of board) (s.number_of side)) (b.at board' side') H caller named read l

  -- the line is that of a wish: whatever histories of the table and of the catalogs the thread was at
  abbrev pub Grants : LibraryData → Books → B → S → B → S → Caller → Result Wish Why → OutLine → Type 0
  Grants library books board side board' side' caller wish l =
      (H : History) (M : catalogs.History) → b.at board side H → b.catalogs_at board side M
      → Leaves (b.setting_of board) library books (b.later (b.setting_of board) (s.number_of side)) (b.catalogs_later (b.setting_of board) (s.number_of side))
      (b.at board' side') (b.catalogs_at board' side') H M caller wish l

  -- the line is that of a catopen which goes by the global locale of this version, or by none, and whose catalog has this number
  abbrev pub OpensBook : B → S → B → S → Caller → Option ℕ → Option ℕ → OutLine → Type 0
  OpensBook board side board' side' caller version book l =
      (H : History) (M : catalogs.History) → b.at board side H → b.catalogs_at board side M
      → LeavesAsked (b.setting_of board) (b.later (b.setting_of board) (s.number_of side)) (b.catalogs_later (b.setting_of board) (s.number_of side))
      (b.at board' side') (b.catalogs_at board' side') caller.thread H M (option_map catalogs.Open book) (λ asked. open_line caller version asked book) l

  -- the line is that of a turn of a thread: whatever its variables stand for
  abbrev pub TakesTurn : LibraryData → Books → B → Thread S → B → Thread S → Turn → OutLine → Type 0
  TakesTurn library books board thread board' thread' turn l =
      (H : History) (M : catalogs.History) (bounds : List Bound) → b.at board thread.side H → b.catalogs_at board thread.side M
      → BindsAs (s.number_of thread.side) thread.variables bounds
      → LeavesTurn (b.setting_of board) library books (b.later (b.setting_of board) (s.number_of thread.side)) (b.catalogs_later (b.setting_of board) (s.number_of thread.side))
      (b.at board' thread'.side) (b.catalogs_at board' thread'.side) H M bounds thread.lines turn l

-- the wish of a catgets
abbrev pub message_wished : Handle → Wanted → Result Wish Why
message_wished handle wanted = Ok (GetsMessage handle wanted.set wanted.message wanted.default.now)

-- a thread's variables stand afterwards for what the task binds by its reply, and else for what they stood for
abbrev pub BindsBy : {S : Type 0} → SideGhosts S → Thread S → Thread S → Task → Said → Type 0
BindsBy s thread thread' task reply =
    (bounds : List Bound) → BindsAs (s.number_of thread.side) thread.variables bounds
    → BindsAs (s.number_of thread.side) thread'.variables (bindings_after (s.number_of thread.side) bounds task reply)
