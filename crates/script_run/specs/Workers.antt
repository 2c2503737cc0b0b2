-- What workers make of their turns, over what all of them share (our own).
use Rattle.std.specs.Prelude.{◌≡◌, ℕ, List}
use Rattle.category_store.specs.declared.share.Share.{Share}
use Rattle.turn_gate.specs.Callers.{Caller}
use Rattle.handle_table.specs.declared.op.Op as ops
use Rattle.handle_table.specs.declared.op.Reply as replies
use Rattle.handle_table.specs.Entry.{Setting}
use Rattle.script_out.specs.declared.output.OutLine.{OutLine}
use Rattle.script_wishes.specs.Turns.{Turn}
use Rattle.script_plan.specs.Plan.{PlanData}
use Rattle.script_seats.specs.Seated.{Gates, gates}
use Rattle.script_run.specs.declared.worker.Common.{Common}
use Rattle.script_run.specs.declared.worker.Worker.{Worker}
use Rattle.script_run.specs.Timed.{Timed}
use Rattle.script_run.specs.Beside.{LibraryAndBooks, library_and_books, library_and_books_of, Adds, CanWork, IsWorker, WorksOn, GivesUp, Closes, turns_of}

-- the table and the catalogs that workers share
abbrev pub gates_of : {R P : Type 0} → Common R P → Gates
gates_of common = gates common.shared.now common.catalogs.now

-- their library, and their catalogs of messages
abbrev pub texts_of : {R P : Type 0} → Common R P → LibraryAndBooks
texts_of common = library_and_books common.library.now common.books.now

-- the worker may take its turns of a round
abbrev pub MayWork : Gates → LibraryAndBooks → List Turn → Worker → Type 0
MayWork gate texts turns w = CanWork gate texts w.thread (turns_of w.thread.side.number turns)

-- the worker has taken its turns of a round, and has their lines
abbrev pub MakesTurns : Gates → LibraryAndBooks → List Turn → Worker → Worker → Type 0
MakesTurns gate texts turns old new = WorksOn gate texts (turns_of old.thread.side.number turns) old.thread new.thread old.lines.items new.lines.items

-- the worker has taken a turn, and has its line
abbrev pub MakesTurn : Gates → LibraryAndBooks → Turn → Worker → Worker → Type 0
MakesTurn gate texts turn old new = Adds gate texts turn old.thread new.thread old.lines.items new.lines.items

-- the worker has given up each open Hold
abbrev pub GivesUpAll : Gates → LibraryAndBooks → ℕ → Worker → Worker → Type 0
GivesUpAll gate texts round old new = GivesUp gate texts round old.thread new.thread old.lines.items new.lines.items

-- the worker has closed its thread, and given its seat with these lines, whatever it has made before
abbrev pub ClosesWorker : Gates → LibraryAndBooks → ℕ → Worker → Caller Setting (ops.Op Share) (replies.Reply Share) → List OutLine → Type 0
ClosesWorker gate texts round w seat lines =
    (plan : PlanData) (made : List Timed) → library_and_books_of plan ≡ texts → IsWorker gate plan w.thread made
    → Closes gate plan round w.thread seat made w.lines.items lines
