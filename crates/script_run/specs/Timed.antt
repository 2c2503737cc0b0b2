-- Lines of threads that call concurrently, judged by one history of the table and one of the catalogs, of which each thread has
-- seen a part (our own).
-- A history has its newest entry first, and so have the lists of lines here: what stands before stays when more is added.
use Rattle.std.specs.Prelude.{◌≡◌, ℕ, zero, suc, ◌+◌, ◌<◌, ◌≤◌, nat_lt, nat_le, if◌then◌else◌, List, [], ◌∷◌, ◌++◌, ◌==◌, length, map, filter, flat_map, reverse, All, Option, Some, None, unwrap_or}
use Rattle.handle_table.specs.Entry.{History, Setting}
use Rattle.handle_table.specs.Kept.{AreThreads}
use Rattle.handle_table.specs.Answer.{IsLegal}
use Rattle.catalog_handles.specs.declared.setting.CatalogSetting.{CatalogSetting}
use Rattle.catalog_handles.specs.Entry as catalogs
use Rattle.catalog_handles.specs.Entry.{History as CatalogHistory}
use Rattle.catalog_handles.specs.Answer as catalog_answers
use Rattle.catalog_handles.specs.Stamps.{IsRising}
use Rattle.script_out.specs.declared.output.OutLine.{OutLine}
use Rattle.script_wishes.specs.Turns.{Turn}
use Rattle.script_wishes.specs.Variables.{bindings_of}
use Rattle.script_wishes.specs.Wishes.{wish_of}
use Rattle.script_lines.specs.Outcome.{with_call}
use Rattle.script_lines.specs.Board.{Moments, catalog_op, granted_at}
use Rattle.script_lines.specs.Catalogs.{Asked}
use Rattle.script_plan.specs.Plan.{PlanData, books_of}
use Rattle.script_plan.specs.Prints.{TaskLine, PlacedCall, bound_by, caller_of, places_in, behind_last, next_place, calls_of}

-- ---- what stands before a place

-- the oldest entries of a history, so many of them: what stands before the place with this number
abbrev pub oldest : ℕ → History → History
oldest place [] = []
oldest place (e ∷ H) = if nat_lt (length H) place then e ∷ H else oldest place H

-- the places of a thread's entries, the newest first
abbrev pub places_by : ℕ → History → List ℕ
places_by thread [] = []
places_by thread (e ∷ H) = if e.who == thread then length H ∷ places_by thread H else places_by thread H

-- the same of a history of the catalogs
abbrev pub catalog_places_by : ℕ → CatalogHistory → List ℕ
catalog_places_by thread [] = []
catalog_places_by thread (e ∷ M) = if e.who == thread then length M ∷ catalog_places_by thread M else catalog_places_by thread M

-- ---- lines with their moments

-- a line with its task, and how many entries stood when it was made: before its first call, or when it read the global locale, and
-- when it asked the catalogs, or else the same number; and what it asked of the catalogs, if anything, and what they have answered
pub record Timed : Type 0 where
  pub task_line : TaskLine
  pub moment : ℕ
  pub stamp : ℕ
  pub op : Option catalogs.Op
  pub asked : Asked

-- how many entries stood behind the line's last call, or where it made none when it was done
abbrev pub end_of : Timed → ℕ
end_of t = unwrap_or (behind_last (places_in t.task_line.line.places)) t.stamp

-- the same of the newest line
abbrev pub last_end : List Timed → ℕ
last_end [] = 0
last_end (t ∷ ts) = end_of t

-- moments do not go back: each line begins where the one before it has ended, or later
abbrev pub AreTimed : List Timed → Type 0
AreTimed [] = Unit {0}
AreTimed (t ∷ ts) = (last_end ts ≤ t.moment) × AreTimed ts

-- the lines, the lines with their tasks, and the turns that made them
abbrev pub lines_in : List Timed → List OutLine
lines_in ts = map (λ (t : Timed). t.task_line.line) ts

abbrev pub task_lines : List Timed → List TaskLine
task_lines ts = map (λ (t : Timed). t.task_line) ts

abbrev pub turn_made : Timed → Turn
turn_made t = record { round = t.task_line.line.round; thread = t.task_line.line.thread; task = t.task_line.task }

abbrev pub turns_made : List Timed → List Turn
turns_made ts = map turn_made ts

-- the places of lines, the newest first
abbrev pub placed_back : List Timed → List ℕ
placed_back ts = flat_map (λ (t : Timed). reverse (places_in t.task_line.line.places)) ts

-- the place in the history of the catalogs of what was asked, and those of lines, the newest first
abbrev pub asked_place : Option catalogs.Op → Asked → List ℕ
asked_place None asked = []
asked_place (Some op) asked = asked.place ∷ []

abbrev pub asked_in : Timed → List ℕ
asked_in t = asked_place t.op t.asked

abbrev pub asked_back : List Timed → List ℕ
asked_back ts = flat_map asked_in ts

-- the lines of the first n threads, the newest first, on top of earlier ones
abbrev pub stacked : (ℕ → List Timed) → List Timed → ℕ → List Timed
stacked more made zero = made
stacked more made (suc n) = more n ++ stacked more made n

-- the lines of a thread
abbrev pub own_lines : ℕ → List Timed → List Timed
own_lines thread ts = filter (λ (t : Timed). t.task_line.line.thread == thread) ts

-- ---- what a line is judged by

-- the place of the Release of a read between; of any other line its place, or its moment
abbrev pub second_moment : List ℕ → ℕ → ℕ
second_moment [] moment = moment
second_moment (place ∷ []) moment = place
second_moment (hold ∷ release ∷ more) moment = release

-- the histories that a line goes by: what stood behind the thread's last call, at the line's moment, and before its Release; and
-- what the catalogs have answered
abbrev pub moments_in : History → List TaskLine → Timed → Moments
moments_in W before t = record {
  seen = oldest (next_place t.task_line.line.thread before) W;
  first = oldest t.moment W;
  second = oldest (second_moment (places_in t.task_line.line.places) t.moment) W;
  asked = t.asked;
}

-- the entry of a history at the place of a call is that call, with its answer to what stands before it
pub record IsEntryOf (c : Setting) (W : History) (call : PlacedCall) : Type 0 where
  pub within : call.place < length W
  pub entry : oldest (call.place + 1) W ≡ with_call c (oldest call.place W) call.thread call.op

-- A line, behind earlier lines of which the newest stands first: it prints what its task asks for at its moment, its number is
-- the next one of its thread, and its calls are entries of the history; and it asked of the catalogs what its task asks of them
pub record IsRight (c : Setting) (plan : PlanData) (W : History) (before : List TaskLine) (t : Timed) : Type 0 where
  pub within : end_of t ≤ length W
  pub since : t.moment ≤ end_of t
  pub index : t.task_line.line.index ≡ length (filter (λ (d : TaskLine). d.line.thread == t.task_line.line.thread) before) + 1
  pub line : t.task_line.line
      ≡ (granted_at c plan.library (books_of plan) (moments_in W before t) (caller_of t.task_line.line) (wish_of plan.library (bindings_of t.task_line.line.thread (bound_by before)) t.task_line.task)).line
  pub entries : All (IsEntryOf c W) (calls_of plan.library (bound_by before) t.task_line)
  pub op : t.op
      ≡ catalog_op c plan.library (books_of plan) (moments_in W before t) t.task_line.line.thread (wish_of plan.library (bindings_of t.task_line.line.thread (bound_by before)) t.task_line.task)

-- lines of which each is right behind those before it
abbrev pub AreRight : Setting → PlanData → History → List Timed → Type 0
AreRight c plan W [] = Unit {0}
AreRight c plan W (t ∷ ts) = IsRight c plan W (task_lines ts) t × AreRight c plan W ts

-- ---- all lines

-- the lines of the rounds before one, and of a round and those before it
abbrev pub in_rounds_before : ℕ → List Timed → List Timed
in_rounds_before round ts = filter (λ (t : Timed). nat_lt t.task_line.line.round round) ts

abbrev pub in_rounds_to : ℕ → List Timed → List Timed
in_rounds_to round ts = filter (λ (t : Timed). nat_le t.task_line.line.round round) ts

-- a line was made while its round ran: behind the calls of earlier rounds, and before those of later ones
pub record IsInRound (ts : List Timed) (t : Timed) : Type 0 where
  pub since : length (placed_back (in_rounds_before t.task_line.line.round ts)) ≤ t.moment
  pub until : end_of t ≤ length (placed_back (in_rounds_to t.task_line.line.round ts))

-- the lines of all threads, the newest first, are right for the history, and its entries are their calls
pub record IsWhole (c : Setting) (plan : PlanData) (W : History) (ts : List Timed) : Type 0 where
  pub legal : IsLegal c W
  pub callers : AreThreads c.threads W
  pub threads : All (λ (t : Timed). t.task_line.line.thread < c.threads) ts
  pub right : AreRight c plan W ts
  pub timed : (thread : ℕ) → AreTimed (own_lines thread ts)
  pub places : (thread : ℕ) → thread < c.threads → places_by thread W ≡ placed_back (own_lines thread ts)
  pub rounds : All (IsInRound ts) ts

-- ---- what all lines have asked of the catalogs

-- the entry of a history of the catalogs at a place is the thread's, with this op and the answer to what stands before it, and with
-- this stamp
pub record IsAskedAt (c : CatalogSetting) (V : CatalogHistory) (thread : ℕ) (op : catalogs.Op) (asked : Asked) (stamp : ℕ) : Type 0 where
  pub before : CatalogHistory
  pub behind : CatalogHistory
  pub whole : V ≡ behind ++ catalog_answers.entry c before thread op stamp ∷ before
  pub place : asked.place ≡ length before
  pub reply : asked.reply ≡ catalog_answers.answer c before thread op

-- what a thread has asked and the catalogs have answered stands in a history of theirs
abbrev pub StandsAsked : CatalogSetting → CatalogHistory → ℕ → Option catalogs.Op → Asked → ℕ → Type 0
StandsAsked c V thread None asked stamp = Unit {0}
StandsAsked c V thread (Some op) asked stamp = IsAskedAt c V thread op asked stamp

abbrev pub HasStanding : CatalogSetting → CatalogHistory → Timed → Type 0
HasStanding c V t = StandsAsked c V t.task_line.line.thread t.op t.asked t.stamp

-- a place is from one number on, and below another
pub record IsWithin (low high p : ℕ) : Type 0 where
  pub since : low ≤ p
  pub until : p < high

-- a line has asked while its round ran: behind what was asked in earlier rounds, and before what was asked in later ones
abbrev pub IsAskedInRound : List Timed → Timed → Type 0
IsAskedInRound ts t = All (IsWithin (length (asked_back (in_rounds_before t.task_line.line.round ts))) (length (asked_back (in_rounds_to t.task_line.line.round ts)))) (asked_in t)

-- what the lines of all threads have asked are the entries of this history of the catalogs
pub record AreAsked (c : CatalogSetting) (V : CatalogHistory) (ts : List Timed) : Type 0 where
  pub legal : catalog_answers.IsLegal c V
  pub rising : IsRising V
  pub callers : catalog_answers.AreThreads c.threads V
  pub standing : All (HasStanding c V) ts
  pub places : (thread : ℕ) → thread < c.threads → catalog_places_by thread V ≡ asked_back (own_lines thread ts)
  pub rounds : All (IsAskedInRound ts) ts
