-- What the variables of threads stand for (our own).
use Rattle.std.specs.Prelude.{ℕ, Bool, true, false, ◌==◌, ◌&&◌, List, [], ◌∷◌, map, filter, Option, Some, None, if◌then◌else◌}
use Rattle.std.specs.Str.{bytes_eq}
use Rattle.std.specs.declared.vec.Vec.{Vec}
use Rattle.lc_base.specs.declared.handle.Handle.{Handle}
use Rattle.script_commands.specs.declared.command.Command.{Command}
use Rattle.script_commands.specs.declared.command.Command.TheVariants as commands
use Rattle.script_out.specs.declared.output.Said.{Said}
use Rattle.script_out.specs.declared.output.Said.TheVariants as said
use Rattle.script_wishes.specs.declared.variables.Space.{Space}
use Rattle.script_wishes.specs.declared.variables.Space.TheVariants.{Locales, Catalogs}
use Rattle.script_wishes.specs.Turns.{Task, Runs, Releases, Ends}

-- ---- the variables of one thread

-- a variable is a name in a space: one of locale objects and one of catalogs may have the same name
pub record Variable : Type 0 where
  pub space : Space
  pub name : List ℕ

abbrev pub locale_variable : List ℕ → Variable
locale_variable name = record { space = Locales; name = name }

abbrev pub catalog_variable : List ℕ → Variable
catalog_variable name = record { space = Catalogs; name = name }

abbrev pub is_same_space : Space → Space → Bool
is_same_space Locales Locales = true
is_same_space Locales Catalogs = false
is_same_space Catalogs Locales = false
is_same_space Catalogs Catalogs = true

-- whether two variables are one
abbrev pub is_same_variable : Variable → Variable → Bool
is_same_variable v w = is_same_space v.space w.space && bytes_eq v.name w.name

-- variables with the handles that they were bound to, the newest binding first
abbrev pub Bindings : Type 0
Bindings = List (Variable × Handle)

-- what a variable stands for: its newest binding
abbrev pub bound : Bindings → Variable → Option Handle
bound [] variable = None
bound (binding ∷ bindings) variable = if is_same_variable binding.0 variable then Some binding.1 else bound bindings variable

-- names of one space with the handles that they were bound to, and what a name stands for
abbrev pub bound_name : List (List ℕ × Handle) → List ℕ → Option Handle
bound_name [] name = None
bound_name (binding ∷ bindings) name = if bytes_eq binding.0 name then Some binding.1 else bound_name bindings name

-- an entry of a map as a name with its handle
abbrev pub binding_of : {A : Type 0} → Vec ℕ A × Handle → List ℕ × Handle
binding_of e = (e.0.items, e.1)

-- the bindings of names as those of variables in a space
abbrev pub in_space : Space → List (List ℕ × Handle) → Bindings
in_space space names = map (λ (n : List ℕ × Handle). (record { space = space; name = n.0 }, n.1)) names

-- ---- the variables of all threads

-- a variable of a thread that was bound to a handle
pub record Bound : Type 0 where
  pub thread : ℕ
  pub variable : Variable
  pub handle : Handle

-- those of one thread
abbrev pub bindings_of : ℕ → List Bound → Bindings
bindings_of thread all = map (λ (b : Bound). (b.variable, b.handle)) (filter (λ (b : Bound). b.thread == thread) all)

-- the variable that a command binds
abbrev pub variable_of : Command → Option Variable
variable_of (commands.New variable bits locale base) = Some (locale_variable variable)
variable_of (commands.Dup variable from) = Some (locale_variable variable)
variable_of (commands.Free named) = None
variable_of (commands.Use named) = None
variable_of commands.Selected = None
variable_of (commands.Hold named) = None
variable_of (commands.Release named) = None
variable_of (commands.Setlocale categories locale) = None
variable_of (commands.LocaleName categories) = None
variable_of (commands.Install key) = None
variable_of (commands.Post cell named) = None
variable_of (commands.Fetch variable owner cell) = Some (locale_variable variable)
variable_of (commands.Pins named) = None
variable_of (commands.Read read) = None
variable_of (commands.ReadOf object read) = None
variable_of (commands.CatOpen variable name) = Some (catalog_variable variable)
variable_of (commands.CatGets catalog set message default) = None
variable_of (commands.CatClose catalog) = None

abbrev pub variable_bound : Task → Option Variable
variable_bound (Runs command) = variable_of command
variable_bound (Releases h) = None
variable_bound Ends = None

-- the handle that a reply has
abbrev pub handle_said : Said → Option Handle
handle_said (said.Handle h) = Some h
handle_said said.Freed = None
handle_said (said.Was former) = None
handle_said (said.Is selected) = None
handle_said said.Held = None
handle_said said.Released = None
handle_said (said.Name name) = None
handle_said (said.Installed count) = None
handle_said said.Posted = None
handle_said (said.Pins count) = None
handle_said (said.Text text) = None
handle_said (said.Parsed fields rest) = None
handle_said (said.Conv texts numbers) = None
handle_said (said.Class is) = None
handle_said (said.Value value) = None
handle_said (said.Opened h) = Some h
handle_said said.Closed = None
handle_said said.Ended = None
handle_said (said.Refused why) = None

-- one more binding, where there is a variable to bind and a handle to bind it to
abbrev pub with_binding : ℕ → List Bound → Option Variable → Option Handle → List Bound
with_binding thread bounds None h = bounds
with_binding thread bounds (Some variable) None = bounds
with_binding thread bounds (Some variable) (Some h) = record { thread = thread; variable = variable; handle = h } ∷ bounds

-- the bindings after a task of a thread that gets this reply
abbrev pub bindings_after : ℕ → List Bound → Task → Said → List Bound
bindings_after thread bounds task reply = with_binding thread bounds (variable_bound task) (handle_said reply)
