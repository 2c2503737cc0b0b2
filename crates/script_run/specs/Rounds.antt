-- The threads of a script between its rounds, while a round runs, and while they are closed (our own).
use Rattle.std.specs.Prelude.{◌≡◌, ℕ, ◌+◌, ◌*◌, ◌<◌, ◌≤◌, List, [], ◌++◌, length, reverse, flat_map, All, OnOk, IsOk, slice_index_or}
use Rattle.std.specs.List.{range_with_len}
use Rattle.category_store.specs.LibraryData.{LibraryData}
use Rattle.category_store.specs.Library.{opening}
use Rattle.category_store.specs.declared.share.Share.{Share}
use Rattle.turn_gate.specs.Callers.{Gate, Caller, IsSeatOf}
use Rattle.turn_gate.specs.declared.entry.Terms.{Terms}
use Rattle.handle_table.specs.declared.op.Op as ops
use Rattle.handle_table.specs.declared.op.Reply as replies
use Rattle.handle_table.specs.Entry.{History, Setting}
use Rattle.handle_table.specs.Answer.{IsLegal}
use Rattle.handle_table.specs.Kept.{AreThreads}
use Rattle.thread_current.specs.Thread.{Thread, thread_of, SawMore, IsThreadOf, IsInOrder, GoesOnFrom}
use Rattle.script_out.specs.declared.output.OutLine.{OutLine}
use Rattle.script_wishes.specs.Holds.{open_holds}
use Rattle.script_lang.specs.declared.bundle.Bundle.{Bundle}
use Rattle.script_wishes.specs.Turns.{Turn, round_turns, command_turns, closing}
use Rattle.script_plan.specs.Plan.{PlanData}
use Rattle.catalog_handles.specs.declared.setting.CatalogSetting.{CatalogSetting}
use Rattle.catalog_handles.specs.Entry.{History as CatalogHistory}
use Rattle.catalog_handles.specs.Answer as catalog_answers
use Rattle.catalog_handles.specs.Stamps.{IsRising}
use Rattle.catalog_handles.specs.Reader as readers
use Rattle.catalog_handles.specs.Reader.{ReaderData}
use Rattle.script_lines.specs.Catalogs.{Books, catalog_setting}
use Rattle.script_run.specs.declared.worker.Common.{Common}
use Rattle.script_run.specs.declared.worker.Worker.{Worker}
use Rattle.script_seats.specs.Seated.{Gates}
use Rattle.script_run.specs.Timed.{Timed, AreTimed, IsWhole, AreAsked, lines_in, turns_made, own_lines, last_end, stacked}
use Rattle.script_run.specs.Beside.{LibraryAndBooks, library_and_books_of, HasMade, IsWorker, Works, turns_of}

-- a fact of each element, by its place
abbrev pub Each : {A : Type 0} → List A → (ℕ → A → Type 0) → Type 0
Each xs P = (i : ℕ) (d : _) → i < length xs → P i (slice_index_or xs i d)

-- the same of the elements of two lists at the same place
abbrev pub EachTwo : {A : Type 0} → List A → List A → (ℕ → A → A → Type 0) → Type 0
EachTwo xs ys P = (i : ℕ) (d : _) → i < length xs → P i (slice_index_or xs i d) (slice_index_or ys i d)

-- the plan of a bundle, its library and its catalogs
abbrev pub plan_made : Bundle → LibraryData → Books → PlanData
plan_made bundle library books = record { bundle = bundle; library = library; books = books.books }

-- the plan of a bundle, with what workers share
abbrev pub plan_of : {R P : Type 0} → Bundle → Common R P → PlanData
plan_of bundle common = plan_made bundle common.library.now common.books.now

-- a worker as its table sees it
abbrev pub mine_of : Worker → Thread
mine_of w = w.thread.side.mine

-- and as its catalogs see it
abbrev pub reader_at : Worker → ReaderData
reader_at w = w.thread.side.reader

-- what was agreed with the table: it is the plan's, and lets a thread make two calls for each command, and its end
pub record IsFor (plan : PlanData) (terms : Terms Setting) : Type 0 where
  pub seats : terms.seats ≡ terms.setting.threads
  pub threads : terms.setting.threads ≡ length plan.bundle.threads
  pub some : 0 < length plan.bundle.threads
  pub opening : terms.setting.opening ≡ opening plan.library
  pub quota : terms.quota ≡ 2 * length plan.bundle.commands + 1

-- what was agreed with the catalogs: they are of the table's threads, with as many rows and calls
pub record IsForAsked (terms : Terms Setting) (asked : Terms CatalogSetting) : Type 0 where
  pub seats : asked.seats ≡ terms.seats
  pub agree : asked.setting ≡ catalog_setting terms.setting
  pub quota : asked.quota ≡ terms.quota

-- a worker with this number before its first command, at the table as this thread, and at the catalogs as this reader
pub record IsFirst (mines : List Thread) (all : List ReaderData) (i : ℕ) (w : Worker) : Type 0 where
  pub number : w.thread.side.number ≡ i
  pub mine : mine_of w ≡ slice_index_or mines i (mine_of w)
  pub reader : reader_at w ≡ slice_index_or all i (reader_at w)
  pub holds : w.thread.side.holds.items ≡ []
  pub variables : w.thread.variables ≡ []
  pub no_lines : w.thread.lines ≡ 0
  pub given : w.lines.items ≡ []

-- ---- while a round runs

-- what its work leaves, unless it was out of memory
pub record HasWorked (gate : Gates) (texts : LibraryAndBooks) (turns : List Turn) (old new : Worker) : Type 0 where
  pub number : OnOk new.outcome (new.thread.side.number ≡ old.thread.side.number)
  pub works : OnOk new.outcome ((plan : PlanData) (made : List Timed) → library_and_books_of plan ≡ texts → IsWorker gate plan old.thread made
      → Works gate plan (turns_of old.thread.side.number turns) old.thread new.thread made old.lines.items new.lines.items)

-- the worker has given its lines away
pub record HasGiven (old new : Worker) : Type 0 where
  pub done : IsOk old.outcome
  pub thread : new.thread ≡ old.thread
  pub lines : new.lines.items ≡ []

-- ---- when threads meet

-- the worker is one of the table's and of the catalogs', and what it has seen of both is in order
abbrev pub IsOfBoth : Gates → Worker → Type 0
IsOfBoth gate w = IsThreadOf gate.locales (mine_of w) × readers.IsReaderOf gate.catalogs (reader_at w)

abbrev pub IsOrderly : Gates → Worker → Type 0
IsOrderly gate w = IsInOrder gate.locales.terms (mine_of w) × readers.IsInOrder gate.catalogs.terms (reader_at w)

-- a worker has seen what another one had seen of both
pub record HasSeenOf (other w : Worker) : Type 0 where
  pub seen : GoesOnFrom (mine_of w).seen (mine_of other).seen
  pub asked : readers.GoesOnFrom (reader_at w).seen (reader_at other).seen

-- the worker with another thread at the table, and another reader at the catalogs
abbrev pub with_both : Worker → Thread → ReaderData → Worker
with_both w mine reader = record w { thread = record w.thread { side = record w.thread.side { mine = mine; reader = reader } } }

-- the worker has seen more of both, or as much, and is the same
pub record SeesMore (gate : Gates) (old new : Worker) : Type 0 where
  pub same : new ≡ with_both old (mine_of new) (reader_at new)
  pub saw : SawMore (mine_of old) (mine_of new)
  pub in_order : IsInOrder gate.locales.terms (mine_of old) → IsInOrder gate.locales.terms (mine_of new)
  pub asked_saw : readers.SawMore (reader_at old) (reader_at new)
  pub asked_order : readers.IsInOrder gate.catalogs.terms (reader_at old) → readers.IsInOrder gate.catalogs.terms (reader_at new)

-- the worker has met another one: it has seen what that one had seen
pub record HasMet (gate : Gates) (seen : History) (asked : CatalogHistory) (old new : Worker) : Type 0 where
  pub more : SeesMore gate old new
  pub other : GoesOnFrom (mine_of new).seen seen
  pub asked_other : readers.GoesOnFrom (reader_at new).seen asked

-- the same of what another worker had seen
abbrev pub HasMetWorker : Gates → Worker → Worker → Worker → Type 0
HasMetWorker gate other old new = HasMet gate (mine_of other).seen (reader_at other).seen old new

-- all workers have met: there is a history that goes on from what each had seen, and what each has seen goes on from it; and so
-- there is one of the catalogs
pub record AllMet (gate : Gates) (olds news : List Worker) : Type 0 where
  pub met : History
  pub legal : IsLegal gate.locales.terms.setting met
  pub callers : AreThreads gate.locales.terms.seats met
  pub more : EachTwo olds news (λ i old new. SeesMore gate old new)
  pub from : Each olds (λ i w. GoesOnFrom met (mine_of w).seen)
  pub on : Each news (λ i w. GoesOnFrom (mine_of w).seen met)
  pub asked : CatalogHistory
  pub asked_legal : catalog_answers.IsLegal gate.catalogs.terms.setting asked
  pub asked_rising : IsRising asked
  pub asked_callers : catalog_answers.AreThreads gate.catalogs.terms.seats asked
  pub asked_from : Each olds (λ i w. readers.GoesOnFrom asked (reader_at w).seen)
  pub asked_on : Each news (λ i w. readers.GoesOnFrom (reader_at w).seen asked)

-- ---- between rounds

-- the worker with this number goes on behind the histories, and has made its lines, which it has given away
pub record IsReady (gate : Gates) (plan : PlanData) (M : History) (V : CatalogHistory) (made : List Timed) (i : ℕ) (w : Worker) : Type 0 where
  pub number : w.thread.side.number ≡ i
  pub worker : IsWorker gate plan w.thread (own_lines i made)
  pub later : GoesOnFrom (mine_of w).seen M
  pub asked_later : readers.GoesOnFrom (reader_at w).seen V
  pub given : w.lines.items ≡ []

-- the turns of the commands of so many rounds
abbrev pub turns_to : Bundle → ℕ → List Turn
turns_to bundle rounds = flat_map (round_turns (length bundle.threads) bundle.commands) (range_with_len 1 rounds)

-- the workers have taken the turns of so many rounds: these are the lines, and there is one history of their calls, and one of what
-- they asked of the catalogs
pub record AreBetween (gate : Gates) (plan : PlanData) (rounds : ℕ) (lines : List OutLine) (workers : List Worker) : Type 0 where
  pub met : History
  pub made : List Timed
  pub whole : IsWhole gate.locales.terms.setting plan met made
  pub asked : CatalogHistory
  pub asked_whole : AreAsked gate.catalogs.terms.setting asked made
  pub in_rounds : All (λ (t : Timed). t.task_line.line.round ≤ rounds) made
  pub turns : turns_made made ≡ reverse (turns_to plan.bundle rounds)
  pub lines_are : lines ≡ reverse (lines_in made)
  pub count : length workers ≡ gate.locales.terms.setting.threads
  pub ready : Each workers (IsReady gate plan met asked made)

-- ---- while the threads are closed

-- a seat of the table
abbrev pub SeatData : Type 0
SeatData = Caller Setting (ops.Op Share) (replies.Reply Share)

-- the seat is the same, and has seen more, or as much
pub record SeatSeesMore (gate : Gate Setting) (old new : SeatData) : Type 0 where
  pub seat : IsSeatOf gate old → IsSeatOf gate new
  pub saw : SawMore (thread_of 0 old) (thread_of 0 new)
  pub in_order : IsInOrder gate.terms (thread_of 0 old) → IsInOrder gate.terms (thread_of 0 new)

-- the seat of the thread with this number, which has closed: it has made these lines behind the history
pub record IsCloser (gate : Gates) (plan : PlanData) (round : ℕ) (M : History) (made : List Timed) (i : ℕ) (more : List Timed) (closed : SeatData) : Type 0 where
  pub seat : IsSeatOf gate.locales closed
  pub number : closed.number ≡ i
  pub has : HasMade gate.locales.terms plan (thread_of 0 closed) (more ++ own_lines i made)
  pub turns : turns_made more ≡ reverse (closing round i (open_holds M i))
  pub since : All (λ (t : Timed). length M ≤ t.moment) more
  pub later : GoesOnFrom (thread_of 0 closed).seen M

-- the threads of these seats have closed one after another
pub record AreClosers (gate : Gates) (plan : PlanData) (round : ℕ) (M : History) (made : List Timed) (seats : List SeatData) : Type 0 where
  pub more : ℕ → List Timed
  pub closers : Each seats (λ i seat. IsCloser gate plan round M made i (more i) seat)
  pub timed : AreTimed (stacked more [] (length seats))
  pub last : Each seats (λ i seat. i + 1 ≡ length seats → last_end (stacked more [] (length seats)) ≤ length (thread_of 0 seat).seen)

-- the threads of a script behind its last round: those of these seats have closed, and the workers that are left have not
pub record AreClosing (gate : Gates) (plan : PlanData) (seats : List SeatData) (workers : List Worker) (lines : List OutLine) : Type 0 where
  pub met : History
  pub made : List Timed
  pub whole : IsWhole gate.locales.terms.setting plan met made
  pub asked : CatalogHistory
  pub asked_whole : AreAsked gate.catalogs.terms.setting asked made
  pub in_rounds : All (λ (t : Timed). t.task_line.line.round ≤ plan.bundle.rounds) made
  pub turns : turns_made made ≡ reverse (command_turns plan.bundle)
  pub count : length seats + length workers ≡ gate.locales.terms.setting.threads
  pub ready : Each workers (λ i w. IsReady gate plan met asked made (length seats + i) w)
  pub closers : AreClosers gate plan (plan.bundle.rounds + 1) met made seats
  pub lines_are : lines ≡ reverse (lines_in (stacked closers.more made (length seats)))
