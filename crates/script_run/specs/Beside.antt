-- Threads of a script that run concurrently, and at which point of it they are.
use Rattle.std.specs.Prelude.{◌≡◌, ℕ, ◌+◌, ◌*◌, ◌^◌, ◌<◌, ◌≤◌, List, [], ◌∷◌, ◌++◌, ◌==◌, length, filter, reverse, All, None}
use Rattle.category_store.specs.LibraryData.{LibraryData}
use Rattle.category_store.specs.Library.{opening}
use Rattle.category_store.specs.Shelf.{IsNumbered, IsInstallable}
use Rattle.category_store.specs.declared.share.Share.{Share}
use Rattle.turn_gate.specs.declared.entry.Terms.{Terms}
use Rattle.turn_gate.specs.Callers.{Gate, Caller}
use Rattle.handle_table.specs.declared.op.Op as ops
use Rattle.handle_table.specs.declared.op.Reply as replies
use Rattle.handle_table.specs.Entry.{Setting, End, Ended}
use Rattle.thread_current.specs.Thread.{Thread, thread_of, IsInOrder, GoesOnFrom, Answered}
use Rattle.script_out.specs.declared.output.OutLine.{OutLine}
use Rattle.script_out.specs.declared.output.Places.TheVariants as places
use Rattle.script_out.specs.declared.output.Said.TheVariants as said
use Rattle.script_lines.specs.Lines.{line}
use Rattle.script_lines.specs.declared.thread.Thread.{Thread as ScriptThread}
use Rattle.script_wishes.specs.Wishes.{TaskMay}
use Rattle.script_lines.specs.Board.{LeavesTurn}
use Rattle.script_wishes.specs.Holds.{open_holds}
use Rattle.script_lines.specs.Thread.{BindsAs}
use Rattle.script_wishes.specs.Turns.{Turn, releases, closing}
use Rattle.script_wishes.specs.Variables.{Bound, bindings_after}
use Rattle.script_plan.specs.Plan.{PlanData, books_of}
use Rattle.script_plan.specs.Prints.{bound_by}
use Rattle.script_seats.specs.declared.seated.Seated.{Seated}
use Rattle.catalog_handles.specs.declared.setting.CatalogSetting.{CatalogSetting}
use Rattle.catalog_handles.specs.Reader as readers
use Rattle.catalog_handles.specs.Reader.{ReaderData}
use Rattle.script_lines.specs.Catalogs.{Books, catalog_setting}
use Rattle.script_seats.specs.Seated.{Gates, IsSeatedAt, IsAskingAt, CanCall, MayCall, MayFollow, MayFollowAsked}
use Rattle.script_run.specs.Timed.{Timed, AreTimed, AreRight, HasStanding, lines_in, task_lines, turns_made, places_by, placed_back, catalog_places_by, asked_in, asked_back}

-- ---- what a thread has made

-- what a thread has made, the newest line first: its lines are right for what it has seen, and its entries there are their calls
pub record HasMade (terms : Terms Setting) (plan : PlanData) (t : Thread) (made : List Timed) : Type 0 where
  pub in_order : IsInOrder terms t
  pub own : All (λ (m : Timed). m.task_line.line.thread ≡ t.number) made
  pub right : AreRight terms.setting plan t.seen made
  pub timed : AreTimed made
  pub places : places_by t.number t.seen ≡ placed_back made

-- what a thread has asked of the catalogs, the newest line first: it stands in what the thread has seen of them, and its entries
-- there are these
pub record HasAsked (terms : Terms CatalogSetting) (r : ReaderData) (made : List Timed) : Type 0 where
  pub in_order : readers.IsInOrder terms r
  pub standing : All (HasStanding terms.setting r.seen) made
  pub places : catalog_places_by r.number r.seen ≡ asked_back made

-- a thread of the script that has made these lines, with no more calls, and a Release for each open Hold, than two for each line
pub record IsWorker (gate : Gates) (plan : PlanData) (t : ScriptThread Seated) (ts : List Timed) : Type 0 where
  pub seated : IsSeatedAt gate.locales t.side t.side.mine.seen
  pub asking : IsAskingAt gate.catalogs t.side t.side.reader.seen
  pub agree : gate.catalogs.terms.setting ≡ catalog_setting gate.locales.terms.setting
  pub made : HasMade gate.locales.terms plan t.side.mine ts
  pub asked : HasAsked gate.catalogs.terms t.side.reader ts
  pub few : length t.side.mine.calls + length (open_holds t.side.mine.seen t.side.number) ≤ 2 * length ts
  pub variables : BindsAs t.side.number t.variables (bound_by (task_lines ts))
  pub lines : t.lines ≡ length ts

-- ---- a turn

-- the library, and the catalogs of messages
pub record LibraryAndBooks : Type 0 where
  pub library : LibraryData
  pub books : Books

abbrev pub library_and_books : LibraryData → Books → LibraryAndBooks
library_and_books library books = record { library = library; books = books }

-- those of a plan
abbrev pub library_and_books_of : PlanData → LibraryAndBooks
library_and_books_of plan = library_and_books plan.library (books_of plan)

-- a thread can make the line of a turn: the table is of the library's names, its quota lets the thread make two calls, and the task
-- is one that may be asked for
pub record CanAdd (gate : Gates) (texts : LibraryAndBooks) (t : ScriptThread Seated) (turn : Turn) : Type 0 where
  pub numbered : IsNumbered texts.library
  pub installable : IsInstallable texts.library
  pub opening : gate.locales.terms.setting.opening ≡ opening texts.library
  pub calls : CanCall 2 gate t.side
  pub few : t.lines + 1 < 2 ^ 32
  pub own : turn.thread ≡ t.side.number
  pub fits : TaskMay texts.library (MayCall gate.locales.terms.setting) turn.task

-- what a turn leaves of its thread, which prints this line: what the thread has seen and bound by it
pub record AddsLine (gate : Gates) (texts : LibraryAndBooks) (turn : Turn) (old new : ScriptThread Seated) (l : OutLine) : Type 0 where
  pub leaves : (bounds : List Bound) → BindsAs old.side.number old.variables bounds
      → LeavesTurn gate.locales.terms.setting texts.library texts.books (MayFollow gate.locales.terms.setting old.side.number) (MayFollowAsked gate.locales.terms.setting old.side.number)
      (IsSeatedAt gate.locales new.side) (IsAskingAt gate.catalogs new.side) old.side.mine.seen old.side.reader.seen bounds old.lines turn l
  pub variables : (bounds : List Bound) → BindsAs old.side.number old.variables bounds
      → BindsAs old.side.number new.variables (bindings_after old.side.number bounds turn.task l.reply)
  pub number : new.side.number ≡ old.side.number
  pub lines : new.lines ≡ old.lines + 1
  pub calls : (n : ℕ) → CanCall (n + 2) gate old.side → CanCall n gate new.side

-- the same, with the line behind those given before
pub record Adds (gate : Gates) (texts : LibraryAndBooks) (turn : Turn) (old new : ScriptThread Seated) (given given' : List OutLine) : Type 0 where
  pub line : OutLine
  pub added : given' ≡ given ++ line ∷ []
  pub adds : AddsLine gate texts turn old new line

-- ---- a round

-- the turns of one thread among those of a round
abbrev pub turns_of : ℕ → List Turn → List Turn
turns_of thread turns = filter (λ (t : Turn). t.thread == thread) turns

-- the same of several turns, of which each may make two calls
pub record CanWork (gate : Gates) (texts : LibraryAndBooks) (t : ScriptThread Seated) (turns : List Turn) : Type 0 where
  pub numbered : IsNumbered texts.library
  pub installable : IsInstallable texts.library
  pub opening : gate.locales.terms.setting.opening ≡ opening texts.library
  pub calls : CanCall (2 * length turns) gate t.side
  pub few : t.lines + length turns < 2 ^ 32
  pub fits : All (λ (turn : Turn). TaskMay texts.library (MayCall gate.locales.terms.setting) turn.task) turns

-- the line has asked no catalog before so many entries of theirs
abbrev pub HasAskedSince : ℕ → Timed → Type 0
HasAskedSince low t = All (λ (p : ℕ). low ≤ p) (asked_in t)

-- what a thread leaves behind turns: a line for each, none of which was made before them
pub record Works (gate : Gates) (plan : PlanData) (those : List Turn) (old new : ScriptThread Seated) (made : List Timed) (lines lines' : List OutLine) : Type 0 where
  pub more : List Timed
  pub added : lines' ≡ lines ++ reverse (lines_in more)
  pub turns : turns_made more ≡ reverse those
  pub since : All (λ (m : Timed). length old.side.mine.seen ≤ m.moment) more
  pub later : GoesOnFrom new.side.mine.seen old.side.mine.seen
  pub asked_since : All (HasAskedSince (length old.side.reader.seen)) more
  pub asked_later : readers.GoesOnFrom new.side.reader.seen old.side.reader.seen
  pub worker : IsWorker gate plan new (more ++ made)

-- the same, whatever the thread has made before
abbrev pub WorksOn : Gates → LibraryAndBooks → List Turn → ScriptThread Seated → ScriptThread Seated → List OutLine → List OutLine → Type 0
WorksOn gate texts turns old new lines lines' =
    (plan : PlanData) (made : List Timed) → library_and_books_of plan ≡ texts → IsWorker gate plan old made → Works gate plan turns old new made lines lines'

-- ---- the end of a thread

-- a thread can be closed: its quota lets it make a Release for each open Hold, and its end
pub record CanClose (gate : Gates) (texts : LibraryAndBooks) (t : ScriptThread Seated) : Type 0 where
  pub numbered : IsNumbered texts.library
  pub installable : IsInstallable texts.library
  pub opening : gate.locales.terms.setting.opening ≡ opening texts.library
  pub calls : CanCall (length t.side.holds.items + 1) gate t.side
  pub few : t.lines + length t.side.holds.items + 1 < 2 ^ 32

-- what giving up the open Holds leaves: a Release of each in the order made, and a thread that can end
pub record GivesUp (gate : Gates) (texts : LibraryAndBooks) (round : ℕ) (old new : ScriptThread Seated) (lines lines' : List OutLine) : Type 0 where
  pub can : CanClose gate texts new
  pub empty : new.side.holds.items ≡ []
  pub number : new.side.number ≡ old.side.number
  pub works : WorksOn gate texts (releases round old.side.number (open_holds old.side.mine.seen old.side.number)) old new lines lines'

-- what the end of a thread leaves: its seat, and the line of its last call
pub record EndsSeat (gate : Gate Setting) (round : ℕ) (t : ScriptThread Seated) (seat : Caller Setting (ops.Op Share) (replies.Reply Share)) (given given' : List OutLine) : Type 0 where
  pub cached : ℕ
  pub place : ℕ
  pub answered : Answered gate t.side.mine (thread_of cached seat) End place Ended
  pub in_order : IsInOrder gate.terms (thread_of cached seat)
  pub added : given' ≡ given ++ line (record { round = round; thread = t.side.number; index = t.lines + 1 }) (places.One place) None said.Ended ∷ []

-- what closing a thread leaves: a Release of each open Hold in the order made, and its end
pub record Closes (gate : Gates) (plan : PlanData) (round : ℕ) (old : ScriptThread Seated) (seat : Caller Setting (ops.Op Share) (replies.Reply Share)) (earlier : List Timed) (lines lines' : List OutLine) : Type 0 where
  pub more : List Timed
  pub added : lines' ≡ lines ++ reverse (lines_in more)
  pub turns : turns_made more ≡ reverse (closing round old.side.number (open_holds old.side.mine.seen old.side.number))
  pub timed : AreTimed more
  pub since : All (λ (m : Timed). length old.side.mine.seen ≤ m.moment) more
  pub later : GoesOnFrom (thread_of 0 seat).seen old.side.mine.seen
  pub made : HasMade gate.locales.terms plan (thread_of 0 seat) (more ++ earlier)
