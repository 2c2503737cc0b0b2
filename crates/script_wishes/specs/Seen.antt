-- The plain data that the code's ops, turns and wishes stand for.
use Rattle.std.specs.Prelude.{ℕ, ◌<◌, Result, Ok, Err}
use Rattle.std.specs.Borrow.{Bor}
use Rattle.handle_table.specs.declared.op.Op.{Op}
use Rattle.handle_table.specs.Seen.{op_of}
use Rattle.script_commands.specs.InRange.{IsInRange}
use Rattle.script_commands.specs.declared.command.Placed.{Placed}
use Rattle.script_out.specs.declared.output.Why.{Why}
use Rattle.script_wishes.specs.declared.turns.Task.{Task as LentTask}
use Rattle.script_wishes.specs.declared.turns.Task.TheVariants as tasks
use Rattle.script_wishes.specs.declared.turns.Turn.{Turn as LentTurn}
use Rattle.script_wishes.specs.declared.variables.Variable.{Variable as LentVariable}
use Rattle.script_wishes.specs.declared.wishes.Wish.{Wish as LentWish}
use Rattle.script_wishes.specs.declared.wishes.Wish.TheVariants as wishes
use Rattle.script_wishes.specs.Turns.{Task, Runs, Releases, Ends, Turn}
use Rattle.script_wishes.specs.Variables.{Variable}
use Rattle.script_wishes.specs.Wishes.{Asks, Wish, Calls, ReadsOf, Reads, AsksSelection, AsksName, OpensCatalog, GetsMessage, ClosesCatalog}

-- an op, or why there is none, as data
abbrev pub asked : {P : _} → Result (Op P) Why → Asks
asked (Ok op) = Ok (op_of op)
asked (Err why) = Err why

-- a task, and a turn
abbrev pub task_seen : LentTask → Task
task_seen (tasks.Command command) = Runs command.now
task_seen (tasks.Release handle) = Releases handle
task_seen tasks.End = Ends

abbrev pub turn_seen : LentTurn → Turn
turn_seen t = record { round = t.round; thread = t.thread; task = task_seen t.task }

-- a command that is lent
abbrev pub placed_seen : Bor Placed → Placed
placed_seen p = p.now

-- a variable whose name is lent
abbrev pub variable_seen : LentVariable → Variable
variable_seen v = record { space = v.space; name = v.name.now }

-- a wish, or why there is none
abbrev pub wish_seen : LentWish → Wish
wish_seen (wishes.Call categories op) = Calls categories (op_of op)
wish_seen (wishes.ReadOf named read) = ReadsOf named read.now
wish_seen (wishes.Read read) = Reads read.now
wish_seen wishes.Selection = AsksSelection
wish_seen (wishes.Name categories) = AsksName categories
wish_seen (wishes.OpenCatalog name) = OpensCatalog name.now
wish_seen (wishes.GetMessage handle wanted) = GetsMessage handle wanted.set wanted.message wanted.default.now
wish_seen (wishes.CloseCatalog handle) = ClosesCatalog handle

abbrev pub wished : Result LentWish Why → Result Wish Why
wished (Ok w) = Ok (wish_seen w)
wished (Err why) = Err why

-- the handles and cells of a task are of one of so many threads
abbrev pub TaskFits : ℕ → Task → Type 0
TaskFits threads (Runs command) = IsInRange threads command
TaskFits threads (Releases h) = Unit {0}
TaskFits threads Ends = Unit {0}

pub record TurnFits (threads : ℕ) (t : Turn) : Type 0 where
  pub thread : t.thread < threads
  pub task : TaskFits threads t.task
