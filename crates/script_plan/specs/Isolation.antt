-- What threads that share handles with nobody print: what the script says of them without the others (our own).
use Rattle.std.specs.Prelude.{◌≡◌, ℕ, ◌≤◌, true, List, [], ◌∷◌, length}
use Rattle.handle_table.specs.Entry.{History, Setting}
use Rattle.handle_table.specs.History.{sets, global_at, selection}
use Rattle.handle_table.specs.Answer.{IsLegal, own}
use Rattle.handle_table.specs.Isolation.{has_thread, part_of, IsClosed}
use Rattle.catalog_handles.specs.Entry.{History as CatalogHistory}
use Rattle.catalog_handles.specs.Answer as catalog_answers
use Rattle.catalog_handles.specs.Isolation as catalog_isolation
use Rattle.script_out.specs.declared.output.OutLine.{OutLine}
use Rattle.script_plan.specs.Plan.{PlanData}
use Rattle.script_wishes.specs.Holds.{open_holds}
use Rattle.script_lines.specs.Catalogs.{catalog_setting}
use Rattle.script_plan.specs.Prints.{TaskLine, with_tasks, PlacedCall, calls_after, history_below, all_turns, Around, around, IsAnswered, Prints}

-- the lines with their tasks, and all their calls
abbrev pub all_task_lines : Setting → PlanData → List OutLine → List TaskLine
all_task_lines c plan lines = with_tasks (all_turns c plan lines) lines

abbrev pub all_calls : Setting → PlanData → List OutLine → List PlacedCall
all_calls c plan lines = calls_after plan.library [] (all_task_lines c plan lines)

-- the history of the calls whose places are below a number, and that of all calls
abbrev pub front : Setting → PlanData → List OutLine → ℕ → History
front c plan lines n = history_below c (all_calls c plan lines) n

abbrev pub whole : Setting → PlanData → List OutLine → History
whole c plan lines = front c plan lines (length (all_calls c plan lines))

-- two histories say the same to a thread: what it selects, its own object, the objects that it holds, the global object of each
-- version, and how many versions there are
pub record SaysTheSameTo (c : Setting) (t : ℕ) (G H : History) : Type 0 where
  pub selection : selection G t ≡ selection H t
  pub own : own G t ≡ own H t
  pub holds : open_holds G t ≡ open_holds H t
  pub globals : (version : ℕ) → version ≤ sets G → global_at c G version ≡ global_at c H version
  pub sets : sets G ≡ sets H

-- what a line is judged by without the other threads: the part of each history
abbrev pub apart : List ℕ → Around → Around
apart threads x = record x { history = λ (place : ℕ). part_of threads (x.history place); whole = part_of threads x.whole }

-- each line of the threads prints what its task asks for, judged by the parts alone
abbrev pub AreAnsweredApart : List ℕ → Setting → PlanData → List OutLine → CatalogHistory → List PlacedCall → List TaskLine → List TaskLine → Type 0
AreAnsweredApart threads c plan lines catalogs calls before [] = Unit {0}
AreAnsweredApart threads c plan lines catalogs calls before (d ∷ after) =
    (has_thread threads d.line.thread ≡ true → IsAnswered (apart threads (around c plan lines catalogs calls before after)) d)
    × AreAnsweredApart threads c plan lines catalogs calls (d ∷ before) after

-- the threads read what they would read without the others: their part of the history is legal, each front of it says the
-- same to them as its part, and each of their lines prints what the parts alone say. Places alone count the calls of others
pub record AreApart (c : Setting) (plan : PlanData) (lines : List OutLine) (threads : List ℕ) : Type 0 where
  pub legal : IsLegal c (part_of threads (whole c plan lines))
  pub fronts : (n : ℕ) → n ≤ length (all_calls c plan lines) → (t : ℕ) → has_thread threads t ≡ true
      → SaysTheSameTo c t (front c plan lines n) (part_of threads (front c plan lines n))
  pub answered : (printed : Prints c plan lines) → AreAnsweredApart threads c plan lines printed.catalogs (all_calls c plan lines) [] (all_task_lines c plan lines)

-- so do all threads that share handles among themselves alone
abbrev pub IsIsolated : Setting → PlanData → List OutLine → Type 0
IsIsolated c plan lines = (threads : List ℕ) → IsClosed threads (whole c plan lines) → AreApart c plan lines threads

-- the same of catalogs: in each history of them by which the lines are printed, the entries of threads that share catalog handles
-- among themselves alone are by themselves a legal history, with the replies that they have beside the others
abbrev pub AreCatalogsIsolated : Setting → PlanData → List OutLine → Type 0
AreCatalogsIsolated c plan lines =
    (printed : Prints c plan lines) (threads : List ℕ) → catalog_isolation.IsClosed threads printed.catalogs
    → catalog_answers.IsLegal (catalog_setting c) (catalog_isolation.part_of threads printed.catalogs)
