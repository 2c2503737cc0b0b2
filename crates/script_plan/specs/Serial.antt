-- What a script prints that is run round by round and in a round thread by thread, by the histories of its calls (our own).
use Rattle.std.specs.Prelude.{ℕ, ◌+◌, ◌==◌, List, [], ◌∷◌, ◌++◌, length, count_by, Result}
use Rattle.category_store.specs.LibraryData.{LibraryData}
use Rattle.category_store.specs.Library.{opening}
use Rattle.handle_table.specs.Entry.{History, Setting}
use Rattle.catalog_handles.specs.Entry.{History as CatalogHistory}
use Rattle.script_out.specs.declared.output.OutLine.{OutLine}
use Rattle.script_out.specs.declared.output.Why.{Why}
use Rattle.script_plan.specs.Plan.{PlanData, books_of}
use Rattle.script_wishes.specs.Turns.{Turn, command_turns, closing_turns}
use Rattle.script_wishes.specs.Variables.{Bound, bindings_of, bindings_after}
use Rattle.script_wishes.specs.Wishes.{Wish, wish_of}
use Rattle.script_lines.specs.Lines.{Caller}
use Rattle.script_lines.specs.Catalogs.{Books}
use Rattle.script_lines.specs.Outcome.{granted, catalogs_left}

-- the table of a plan: its threads, so many rows and generations, and what its locale names offer at first
abbrev pub setting : PlanData → ℕ → ℕ → Setting
setting plan rows generations = record { threads = length plan.bundle.threads; rows = rows; generations = generations; opening = opening plan.library }

-- ---- all lines

-- a script after some of its turns: the history of the table, that of the catalogs, what variables stand for, and the lines
pub record Run : Type 0 where
  pub history : History
  pub catalogs : CatalogHistory
  pub bindings : List Bound
  pub lines : List OutLine

-- how many lines a thread has
abbrev pub lines_of_thread : ℕ → List OutLine → ℕ
lines_of_thread thread lines = count_by (λ (l : OutLine). l.thread == thread) lines

-- whose line the next turn prints; closing lines go on counting
abbrev pub next_caller : Run → Turn → Caller
next_caller run turn = record { round = turn.round; thread = turn.thread; index = lines_of_thread turn.thread run.lines + 1 }

-- what a turn leaves: the history of the table, that of the catalogs, and its line
pub record TurnOutcome : Type 0 where
  pub history : History
  pub catalogs : CatalogHistory
  pub line : OutLine

-- what the wish of a turn leaves
abbrev pub outcome_of : Setting → LibraryData → Books → Run → Caller → Result Wish Why → TurnOutcome
outcome_of c library books run at wish =
    let done = granted c library books run.history run.catalogs at wish in
    record { history = done.history; catalogs = catalogs_left c library books run.history run.catalogs at.thread wish; line = done.line }

-- what a turn leaves
abbrev pub outcome : Setting → LibraryData → Books → Run → Turn → TurnOutcome
outcome c library books run turn = outcome_of c library books run (next_caller run turn) (wish_of library (bindings_of turn.thread run.bindings) turn.task)

-- the script after one more turn, which left this
abbrev pub with_outcome : Run → Turn → TurnOutcome → Run
with_outcome run turn done = record {
  history = done.history;
  catalogs = done.catalogs;
  bindings = bindings_after turn.thread run.bindings turn.task done.line.reply;
  lines = run.lines ++ done.line ∷ [];
}

-- the script after more turns
abbrev pub played : Setting → LibraryData → Books → Run → List Turn → Run
played c library books run [] = run
played c library books run (turn ∷ turns) = played c library books (with_outcome run turn (outcome c library books run turn)) turns

-- the script before its first turn
abbrev pub begun : Run
begun = record { history = []; catalogs = []; bindings = []; lines = [] }

-- the script after all commands
abbrev pub commands_played : Setting → PlanData → Run
commands_played c plan = played c plan.library (books_of plan) begun (command_turns plan.bundle)

-- the script after the turns that close its threads
abbrev pub closed : Setting → PlanData → Run → Run
closed c plan run = played c plan.library (books_of plan) run (closing_turns plan.bundle run.history)

-- the lines of a plan, for so many rows of each thread and generations of each row
abbrev pub serial_lines : ℕ → ℕ → PlanData → List OutLine
serial_lines rows generations plan = let c = setting plan rows generations in (closed c plan (commands_played c plan)).lines
