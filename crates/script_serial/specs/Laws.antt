-- Laws of what scripts print, and of what their threads hold (our own).
use Rattle.std.specs.Prelude.{◌≡◌, ℕ, List}
use Rattle.std.specs.Option.{is_some}
use Rattle.lc_base.specs.declared.handle.Handle.{Handle}
use Rattle.lc_base.specs.declared.handle.Named.TheVariants.{Of}
use Rattle.handle_table.specs.Entry.{History, Setting}
use Rattle.handle_table.specs.History.{holding}
use Rattle.handle_table.specs.Answer.{IsLegal}
use Rattle.script_out.specs.declared.output.OutLine.{OutLine}
use Rattle.script_plan.specs.Plan.{PlanData}
use Rattle.script_wishes.specs.Holds.{open_holds, held_as}
use Rattle.script_plan.specs.Isolation.{IsIsolated, AreCatalogsIsolated}
use Rattle.script_plan.specs.Prints.{Prints, PrintsInOrder}
use Rattle.script_plan.specs.Serial.{serial_lines, setting}

-- lines that a script prints one after another are those of `serial`: there is one such list alone
abbrev pub OnlySerial : Type 0
OnlySerial = (rows generations : ℕ) (plan : PlanData) (lines : List OutLine) → PrintsInOrder (setting plan rows generations) plan lines → lines ≡ serial_lines rows generations plan

-- after a legal history a thread has an open Hold of a handle, with its object, just where it holds the handle
abbrev pub HeldWhereHolding : Type 0
HeldWhereHolding = (c : Setting) (H : History) → IsLegal c H → (t : ℕ) (h : Handle) → is_some (held_as (open_holds H t) (Of h)) ≡ holding H t h

-- in lines that a script may print, in whatever order its threads called, threads that share handles with nobody read what
-- they would read without the others
abbrev pub Isolation : Type 0
Isolation = (c : Setting) (plan : PlanData) (lines : List OutLine) → Prints c plan lines → IsIsolated c plan lines

-- and the same of those that share catalog handles with nobody
abbrev pub CatalogsIsolation : Type 0
CatalogsIsolation = (c : Setting) (plan : PlanData) (lines : List OutLine) → AreCatalogsIsolated c plan lines
