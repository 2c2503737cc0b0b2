-- Which lines a script may print: those of one history of its threads' calls of the table, and of one of their calls of the
-- catalogs (our own).
-- A round's threads may call in any order. Each line is judged by the history before its own places, or, where it has none,
-- before the next place of its thread.
use Rattle.std.specs.Prelude.{◌≡◌, ℕ, zero, suc, ◌+◌, ◌<◌, ◌≤◌, ◌⊎◌, ◌==◌, nat_lt, nat_le, if◌then◌else◌, List, [], ◌∷◌, ◌++◌, length, map, filter, flat_map, find, zip, count_by, option_to_list, All, Option, Some, None, unwrap_or, Result, Ok, Err}
use Rattle.std.specs.List.Sorted.{IsStrictlyIncreasing}
use Rattle.mask_compose.specs.Parts.{Parts}
use Rattle.category_store.specs.LibraryData.{LibraryData}
use Rattle.lc_base.specs.declared.handle.Named.{Named}
use Rattle.handle_table.specs.Entry as table
use Rattle.handle_table.specs.Entry.{History, Setting}
use Rattle.handle_table.specs.History.{sets, global_at, selection}
use Rattle.handle_table.specs.Answer.{answer, own}
use Rattle.catalog_handles.specs.declared.setting.CatalogSetting.{CatalogSetting}
use Rattle.catalog_handles.specs.Entry as catalog
use Rattle.catalog_handles.specs.Entry.{History as CatalogHistory}
use Rattle.catalog_handles.specs.Answer as catalog_answers
use Rattle.catalog_handles.specs.Answer.{AreThreads}
use Rattle.catalog_handles.specs.Stamps.{IsRising, stamp_at}
use Rattle.script_commands.specs.declared.command.Read.{Read}
use Rattle.script_words.specs.declared.categories.CategoryArgument.{CategoryArgument}
use Rattle.script_words.specs.declared.categories.CategoryArgument.TheVariants.{All as AllCategories}
use Rattle.script_out.specs.declared.output.OutLine.{OutLine}
use Rattle.script_out.specs.declared.output.Places.{Places}
use Rattle.script_out.specs.declared.output.Places.TheVariants as places
use Rattle.script_out.specs.declared.output.Why.{Why}
use Rattle.script_out.specs.declared.output.Said.TheVariants as said
use Rattle.script_plan.specs.Plan.{PlanData, books_of}
use Rattle.script_wishes.specs.Holds.{object_held, open_holds, held_as}
use Rattle.script_wishes.specs.Turns.{Task, Turn, command_turns, closing_turns}
use Rattle.script_wishes.specs.Variables.{Bound, bindings_of, bindings_after}
use Rattle.script_wishes.specs.Wishes.{Wish, Calls, ReadsOf, Reads, AsksSelection, AsksName, OpensCatalog, GetsMessage, ClosesCatalog, wish_of, ops_of}
use Rattle.script_lines.specs.Lines.{Caller, plain_line, placed_line, object_line, held_line, global_read_line, global_name_line}
use Rattle.script_lines.specs.Catalogs.{Asked, not_asked, book_for, catalog_setting, handle_meant, open_line, message_line, close_line}
use Rattle.script_lines.specs.Outcome.{with_call}

-- ---- lines with their tasks

-- a line, and the task that it is printed for
pub record TaskLine : Type 0 where
  pub task : Task
  pub line : OutLine

-- the lines with the tasks of turns, in their order
abbrev pub with_tasks : List Turn → List OutLine → List TaskLine
with_tasks [] lines = []
with_tasks (turn ∷ turns) [] = []
with_tasks (turn ∷ turns) (l ∷ lines) = record { task = turn.task; line = l } ∷ with_tasks turns lines

-- what variables stand for after lines, of which the newest stands first
abbrev pub bound_by : List TaskLine → List Bound
bound_by [] = []
bound_by (d ∷ before) = bindings_after d.line.thread (bound_by before) d.task d.line.reply

-- the places of a line in the history of the table
abbrev pub places_in : Places → List ℕ
places_in places.None = []
places_in (places.One place) = place ∷ []
places_in (places.Two hold release) = hold ∷ release ∷ []
places_in (places.Catalog place) = []

-- its place in the history of the catalogs, if it has one
abbrev pub catalog_places_in : Places → List ℕ
catalog_places_in places.None = []
catalog_places_in (places.One place) = []
catalog_places_in (places.Two hold release) = []
catalog_places_in (places.Catalog place) = place ∷ []

-- all places of lines, in the order of the lines
abbrev pub all_places : List OutLine → List ℕ
all_places lines = flat_map (λ (l : OutLine). places_in l.places) lines

abbrev pub all_catalog_places : List OutLine → List ℕ
all_catalog_places lines = flat_map (λ (l : OutLine). catalog_places_in l.places) lines

-- the lines of a thread, of the rounds before one, and of a round and those before it
abbrev pub of_thread : ℕ → List OutLine → List OutLine
of_thread thread lines = filter (λ (l : OutLine). l.thread == thread) lines

abbrev pub before_round : ℕ → List OutLine → List OutLine
before_round round lines = filter (λ (l : OutLine). nat_lt l.round round) lines

abbrev pub from_round : ℕ → List OutLine → List OutLine
from_round round lines = filter (λ (l : OutLine). nat_le round l.round) lines

abbrev pub up_to_round : ℕ → List OutLine → List OutLine
up_to_round round lines = filter (λ (l : OutLine). nat_le l.round round) lines

-- ---- the history of lines

-- a call of a thread, at its place
pub record PlacedCall : Type 0 where
  pub place : ℕ
  pub thread : ℕ
  pub op : table.Op

abbrev pub call_of : ℕ → ℕ × table.Op → PlacedCall
call_of thread placed = record { place = placed.0; thread = thread; op = placed.1 }

-- the calls of a line, each at its place: the op of its command, a Hold and then a Release, or a closing call
abbrev pub calls_of : LibraryData → List Bound → TaskLine → List PlacedCall
calls_of library bounds d = map (call_of d.line.thread) (zip (places_in d.line.places) (ops_of (wish_of library (bindings_of d.line.thread bounds) d.task)))

-- the calls of lines, after other lines of which the newest stands first
abbrev pub calls_after : LibraryData → List TaskLine → List TaskLine → List PlacedCall
calls_after library before [] = []
calls_after library before (d ∷ after) = calls_of library (bound_by before) d ++ calls_after library (d ∷ before) after

-- the history with one more call, if there is one
abbrev pub with_placed : Setting → History → Option PlacedCall → History
with_placed c H None = H
with_placed c H (Some call) = with_call c H call.thread call.op

-- the history of the calls whose places are below a number: in order of place, and each with its answer to what came before
abbrev pub history_below : Setting → List PlacedCall → ℕ → History
history_below c calls zero = []
history_below c calls (suc n) = with_placed c (history_below c calls n) (find (λ (call : PlacedCall). call.place == n) calls)

-- ---- what a line is judged by

-- the lines before it, of which the newest stands first, those behind it, the history before each place, the whole one, and the
-- whole one of the catalogs
pub record Around : Type 0 where
  pub setting : Setting
  pub plan : PlanData
  pub lines : List OutLine
  pub history : ℕ → History
  pub whole : History
  pub catalogs : CatalogHistory
  pub before : List TaskLine
  pub after : List TaskLine

-- the history before a place
abbrev pub past : Around → ℕ → History
past x place = x.history place

-- one more than the last place of a thread's lines, of which the newest stands first, or 0
abbrev pub behind_last : List ℕ → Option ℕ
behind_last [] = None
behind_last (place ∷ []) = Some (place + 1)
behind_last (place ∷ release ∷ more) = Some (release + 1)

abbrev pub or_earlier : Option ℕ → ℕ → ℕ
or_earlier found earlier = unwrap_or found earlier

abbrev pub next_place : ℕ → List TaskLine → ℕ
next_place thread [] = 0
next_place thread (d ∷ before) =
    if d.line.thread == thread then or_earlier (behind_last (places_in d.line.places)) (next_place thread before) else next_place thread before

-- what the thread has seen of its own calls: the history before the place behind its last one
abbrev pub seen : Around → ℕ → History
seen x thread = past x (next_place thread x.before)

-- the lines alone, without their tasks
abbrev pub lines_of : List TaskLine → List OutLine
lines_of ds = map (λ (d : TaskLine). d.line) ds

-- the first place of a thread behind the line
abbrev pub first_of : List ℕ → Option ℕ
first_of [] = None
first_of (place ∷ more) = Some place

abbrev pub place_behind : Around → ℕ → Option ℕ
place_behind x thread = first_of (all_places (of_thread thread (lines_of x.after)))

-- the versions that lines print
abbrev pub versions : List OutLine → List ℕ
versions lines = flat_map (λ (l : OutLine). option_to_list l.global) lines

-- a version is not above that of the history before a place
abbrev pub IsUpToPlace : Around → ℕ → Option ℕ → Type 0
IsUpToPlace x version None = Unit {0}
IsUpToPlace x version (Some place) = version ≤ sets (past x place)

-- a version that a line may print without having made it: it is not before what the thread or an earlier round has seen or printed,
-- and not after the thread's next call, nor after this round
pub record IsVersion (x : Around) (at : Caller) (version : ℕ) : Type 0 where
  pub seen : sets (seen x at.thread) ≤ version
  pub rounds : sets (past x (length (all_places (before_round at.round x.lines)))) ≤ version
  pub next : IsUpToPlace x version (place_behind x at.thread)
  pub round : version ≤ sets (past x (length (all_places (up_to_round at.round x.lines))))
  pub printed : All (λ (v : ℕ). v ≤ version) (versions (of_thread at.thread (lines_of x.before)))
  pub printed_earlier : All (λ (v : ℕ). v ≤ version) (versions (before_round at.round x.lines))

-- the global object of a version, in the history of all calls
abbrev pub global_of : Around → ℕ → Parts
global_of x version = global_at x.setting x.whole version

-- ---- what a line prints

-- the line of a call prints its answer at its place
pub record IsCall (x : Around) (at : Caller) (l : OutLine) (categories : CategoryArgument) (op : table.Op) : Type 0 where
  pub place : ℕ
  pub is : l ≡ placed_line x.plan.library place at categories (answer x.setting (past x place) at.thread op)

-- a Hold and a Release with these places, where the Hold is accepted and gives this object, and the Release is accepted
pub record IsReadBetween (x : Around) (at : Caller) (l : OutLine) (n : Named) (read : Read) : Type 0 where
  pub hold : ℕ
  pub release : ℕ
  pub object : Parts
  pub held : object_held (answer x.setting (past x hold) at.thread (table.Hold n)) ≡ Some object
  pub released : answer x.setting (past x release) at.thread (table.Release n) ≡ table.Released
  pub is : l ≡ held_line x.plan.library hold release at read object

-- a Hold that is refused
pub record IsHoldRefused (x : Around) (at : Caller) (l : OutLine) (n : Named) : Type 0 where
  pub place : ℕ
  pub held : object_held (answer x.setting (past x place) at.thread (table.Hold n)) ≡ None
  pub is : l ≡ placed_line x.plan.library place at AllCategories (answer x.setting (past x place) at.thread (table.Hold n))

-- a read of what is named: of the open Hold's object, where there is one; else between a Hold and a Release, or refused by the Hold
abbrev pub IsReadOf : Around → Caller → OutLine → Named → Read → Option Parts → Type 0
IsReadOf x at l n read (Some object) = l ≡ object_line x.plan.library at read object
IsReadOf x at l n read None = IsReadBetween x at l n read ⊎ IsHoldRefused x at l n

-- a read of the global locale as it was at a version
pub record IsGlobalRead (x : Around) (at : Caller) (l : OutLine) (read : Read) : Type 0 where
  pub version : ℕ
  pub bounds : IsVersion x at version
  pub is : l ≡ global_read_line x.plan.library at read version (global_of x version)

-- the name of the global locale as it was at a version
pub record IsGlobalName (x : Around) (at : Caller) (l : OutLine) (categories : CategoryArgument) : Type 0 where
  pub version : ℕ
  pub bounds : IsVersion x at version
  pub is : l ≡ global_name_line x.plan.library at categories version (global_of x version)

-- a read of the thread's own object, or of the global locale
abbrev pub IsRead : Around → Caller → OutLine → Read → Option Parts → Type 0
IsRead x at l read (Some object) = l ≡ object_line x.plan.library at read object
IsRead x at l read None = IsGlobalRead x at l read

-- what the catalogs have answered to an op of a thread, in a history of theirs: the entry at the place is the thread's, with this
-- op and the answer to what stands before it, and with some stamp
pub record IsAsked (c : CatalogSetting) (M : CatalogHistory) (thread : ℕ) (op : catalog.Op) (asked : Asked) : Type 0 where
  pub before : CatalogHistory
  pub behind : CatalogHistory
  pub stamp : ℕ
  pub whole : M ≡ behind ++ catalog_answers.entry c before thread op stamp ∷ before
  pub place : asked.place ≡ length before
  pub reply : asked.reply ≡ catalog_answers.answer c before thread op

-- the line of a call of the catalogs prints their answer
pub record IsCatalogCall (x : Around) (at : Caller) (l : OutLine) (op : catalog.Op) (printed : Asked → OutLine) : Type 0 where
  pub asked : Asked
  pub stands : IsAsked (catalog_setting x.setting) x.catalogs at.thread op asked
  pub is : l ≡ printed asked

-- a catopen that prints this version, of the catalog with this number; of none it makes no entry
abbrev pub IsOpenOf : Around → Caller → OutLine → Option ℕ → Option ℕ → Type 0
IsOpenOf x at l version (Some n) = IsCatalogCall x at l (catalog.Open n) (λ asked. open_line at version asked (Some n))
IsOpenOf x at l version None = l ≡ open_line at version not_asked None

-- a catopen by this object: of the catalog that the name names for it
abbrev pub IsOpenBy : Around → Caller → OutLine → Option ℕ → List ℕ → Parts → Type 0
IsOpenBy x at l version name object = IsOpenOf x at l version (book_for x.plan.library (books_of x.plan) object name)

-- a catopen by the global locale as it was at a version
pub record IsGlobalOpen (x : Around) (at : Caller) (l : OutLine) (name : List ℕ) : Type 0 where
  pub version : ℕ
  pub bounds : IsVersion x at version
  pub opens : IsOpenBy x at l (Some version) name (global_of x version)

-- a catopen by the thread's own object, or by the global locale
abbrev pub IsOpen : Around → Caller → OutLine → List ℕ → Option Parts → Type 0
IsOpen x at l name (Some object) = IsOpenBy x at l None name object
IsOpen x at l name None = IsGlobalOpen x at l name

-- the line of a wish; a refusal without an entry is printed alone
abbrev pub IsGranted : Around → Caller → OutLine → Result Wish Why → Type 0
IsGranted x at l (Err why) = l ≡ plain_line at (said.Refused why)
IsGranted x at l (Ok (Calls categories op)) = IsCall x at l categories op
IsGranted x at l (Ok (ReadsOf n read)) = IsReadOf x at l n read (held_as (open_holds (seen x at.thread) at.thread) n)
IsGranted x at l (Ok (Reads read)) = IsRead x at l read (own (seen x at.thread) at.thread)
IsGranted x at l (Ok AsksSelection) = l ≡ plain_line at (said.Is (selection (seen x at.thread) at.thread))
IsGranted x at l (Ok (AsksName categories)) = IsGlobalName x at l categories
IsGranted x at l (Ok (OpensCatalog name)) = IsOpen x at l name (own (seen x at.thread) at.thread)
IsGranted x at l (Ok (GetsMessage h set message default)) = IsCatalogCall x at l (catalog.Get (handle_meant h)) (λ asked. message_line (books_of x.plan) at set message default asked)
IsGranted x at l (Ok (ClosesCatalog h)) = IsCatalogCall x at l (catalog.Close (handle_meant h)) (λ asked. close_line at asked)

-- the caller of a line
abbrev pub caller_of : OutLine → Caller
caller_of l = record { round = l.round; thread = l.thread; index = l.index }

-- a line prints what its task asks for
abbrev pub IsAnswered : Around → TaskLine → Type 0
IsAnswered x d = IsGranted x (caller_of d.line) d.line (wish_of x.plan.library (bindings_of d.line.thread (bound_by x.before)) d.task)

-- what a line is judged by among lines with these calls
abbrev pub around : Setting → PlanData → List OutLine → CatalogHistory → List PlacedCall → List TaskLine → List TaskLine → Around
around c plan lines catalogs calls before after = record {
  setting = c;
  plan = plan;
  lines = lines;
  history = history_below c calls;
  whole = history_below c calls (length calls);
  catalogs = catalogs;
  before = before;
  after = after;
}

-- each line does, by what stands before it and behind it
abbrev pub AreAnswered : Setting → PlanData → List OutLine → CatalogHistory → List PlacedCall → List TaskLine → List TaskLine → Type 0
AreAnswered c plan lines catalogs calls before [] = Unit {0}
AreAnswered c plan lines catalogs calls before (d ∷ after) = IsAnswered (around c plan lines catalogs calls before after) d × AreAnswered c plan lines catalogs calls (d ∷ before) after

-- ---- the whole

-- the caller of each turn, after those before it
abbrev pub index_after : List Caller → ℕ → ℕ
index_after before thread = count_by (λ (at : Caller). at.thread == thread) before + 1

abbrev pub caller_after : List Caller → Turn → Caller
caller_after before turn = record { round = turn.round; thread = turn.thread; index = index_after before turn.thread }

abbrev pub callers_after : List Caller → List Turn → List Caller
callers_after before [] = []
callers_after before (turn ∷ turns) = caller_after before turn ∷ callers_after (before ++ caller_after before turn ∷ []) turns

-- the calls of the lines of the commands, which stand before the closing lines
abbrev pub command_calls : PlanData → List OutLine → List PlacedCall
command_calls plan lines = calls_after plan.library [] (with_tasks (command_turns plan.bundle) lines)

-- the turns of the commands, and those that close what is open after them
abbrev pub all_turns : Setting → PlanData → List OutLine → List Turn
all_turns c plan lines =
    let calls = command_calls plan lines in
    command_turns plan.bundle ++ closing_turns plan.bundle (history_below c calls (length calls))

-- all places are there, each once; they rise along the lines of a thread, from round to round, and along the closing lines
pub record ArePlaced (last : ℕ) (lines : List OutLine) : Type 0 where
  pub once : (place : ℕ) → place < length (all_places lines) → count_by (λ (p : ℕ). p == place) (all_places lines) ≡ 1
  pub threads : (thread : ℕ) → IsStrictlyIncreasing (all_places (of_thread thread lines))
  pub rounds : (round : ℕ) → All (λ (p : ℕ). All (λ (q : ℕ). p < q) (all_places (from_round round lines))) (all_places (before_round round lines))
  pub closing : IsStrictlyIncreasing (all_places (from_round (last + 1) lines))

-- the same of the catalogs: a history of them is a legal one of the script's threads, and has an entry for each place of the lines,
-- which are all there, each once; they rise along the lines of a thread, and from round to round
pub record AreCatalogsPlaced (c : CatalogSetting) (M : CatalogHistory) (lines : List OutLine) : Type 0 where
  pub legal : catalog_answers.IsLegal c M
  pub callers : AreThreads c.threads M
  pub many : length (all_catalog_places lines) ≡ length M
  pub once : (place : ℕ) → place < length (all_catalog_places lines) → count_by (λ (p : ℕ). p == place) (all_catalog_places lines) ≡ 1
  pub threads : (thread : ℕ) → IsStrictlyIncreasing (all_catalog_places (of_thread thread lines))
  pub rounds : (round : ℕ) → All (λ (p : ℕ). All (λ (q : ℕ). p < q) (all_catalog_places (from_round round lines))) (all_catalog_places (before_round round lines))

-- the calls of some lines stand before those of others, in an order that has each entry of the catalogs behind as many entries of the
-- table as its stamp says, and before the others: those on one history and those on the other
pub record StandBefore (stamps : ℕ → ℕ) (before after : List OutLine) : Type 0 where
  pub table : All (λ (p : ℕ). All (λ (q : ℕ). p < stamps q) (all_catalog_places after)) (all_places before)
  pub catalogs : All (λ (q : ℕ). All (λ (p : ℕ). stamps q ≤ p) (all_places after)) (all_catalog_places before)

-- There is one order of all calls, of which the order of the table's places and that of the catalogs' are parts: the entries of the
-- catalogs have stamps that never fall. It has the calls of each thread in the order of its lines, wherever these are cut in two, and
-- the calls of each round before those of later rounds
pub record HaveOneOrder (M : CatalogHistory) (lines : List OutLine) : Type 0 where
  pub rising : IsRising M
  pub threads : (thread : ℕ) (before after : List OutLine) → of_thread thread lines ≡ before ++ after → StandBefore (stamp_at M) before after
  pub rounds : (round : ℕ) → StandBefore (stamp_at M) (before_round round lines) (from_round round lines)

-- a script prints these lines: one for each turn, in order; with the places of one history of the table, and of one of the catalogs,
-- which are parts of one order of all calls; and each prints what it asks for
pub record Prints (c : Setting) (plan : PlanData) (lines : List OutLine) : Type 0 where
  pub catalogs : CatalogHistory
  pub callers : map caller_of lines ≡ callers_after [] (all_turns c plan lines)
  pub placed : ArePlaced plan.bundle.rounds lines
  pub catalogs_placed : AreCatalogsPlaced (catalog_setting c) catalogs lines
  pub one_order : HaveOneOrder catalogs lines
  pub answered : let ds = with_tasks (all_turns c plan lines) lines in AreAnswered c plan lines catalogs (calls_after plan.library [] ds) [] ds

-- ---- lines of which each is printed before the next call is made

-- the places go up from line to line
abbrev pub AreInOrder : List OutLine → Type 0
AreInOrder lines = IsStrictlyIncreasing (all_places lines)

abbrev pub AreCatalogsInOrder : List OutLine → Type 0
AreCatalogsInOrder lines = IsStrictlyIncreasing (all_catalog_places lines)

-- a version that a line prints without having made it is that of the calls of the lines before it
abbrev pub IsNewest : Setting → List PlacedCall → List OutLine → OutLine → Type 0
IsNewest c calls before l = (version : ℕ) → places_in l.places ≡ [] → l.global ≡ Some version → version ≡ sets (history_below c calls (length (all_places before)))

abbrev pub AreNewest : Setting → List PlacedCall → List OutLine → List OutLine → Type 0
AreNewest c calls before [] = Unit {0}
AreNewest c calls before (l ∷ after) = IsNewest c calls before l × AreNewest c calls (before ++ l ∷ []) after

-- a script prints these lines one after another: there is one such list alone
pub record PrintsInOrder (c : Setting) (plan : PlanData) (lines : List OutLine) : Type 0 where
  pub prints : Prints c plan lines
  pub in_order : AreInOrder lines
  pub catalogs_in_order : AreCatalogsInOrder lines
  pub newest : AreNewest c (calls_after plan.library [] (with_tasks (all_turns c plan lines) lines)) [] lines
