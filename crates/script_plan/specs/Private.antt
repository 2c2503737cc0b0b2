-- Scripts whose threads keep to themselves: no thread touches what another can see (our own).
use Rattle.std.specs.Prelude.{◌≡◌, Bool, true, false, List, map, Option, Some, None}
use Rattle.std.specs.List.{list_all}
use Rattle.handle_table.specs.Entry.{Setting}
use Rattle.script_commands.specs.declared.command.Command.{Command}
use Rattle.script_commands.specs.declared.command.Command.TheVariants.{New, Dup, Free, Use, Selected, Hold, Release, Setlocale, LocaleName, Install, Post, Fetch, Pins, Read, ReadOf, CatOpen, CatGets, CatClose}
use Rattle.script_commands.specs.declared.command.Placed.{Placed}
use Rattle.script_commands.specs.declared.command.Target.{Target}
use Rattle.script_commands.specs.declared.command.Target.TheVariants.{Global, Variable, Handle}
use Rattle.script_lang.specs.declared.bundle.Bundle.{Bundle}
use Rattle.script_out.specs.declared.output.OutLine.{OutLine}
use Rattle.script_out.specs.declared.output.Places.TheVariants as places
use Rattle.script_plan.specs.Plan.{PlanData}
use Rattle.script_plan.specs.Prints.{Prints}

-- ---- commands that keep to their thread

-- a variable or the global locale is named; a handle that is written out can be another thread's
abbrev pub is_own_target : Target → Bool
is_own_target Global = true
is_own_target (Variable name) = true
is_own_target (Handle h) = false

-- so is a base, where there is one
abbrev pub is_own_base : Option Target → Bool
is_own_base None = true
is_own_base (Some base) = is_own_target base

-- whether the command makes, changes, frees or selects an object of its thread or counts its pins, or reads without a
-- handle: it takes nothing from other threads, and leaves nothing for them
abbrev pub keeps_to_itself : Command → Bool
keeps_to_itself (New variable mask locale base) = is_own_base base
keeps_to_itself (Dup variable from) = is_own_target from
keeps_to_itself (Free named) = is_own_target named
keeps_to_itself (Use named) = is_own_target named
keeps_to_itself Selected = true
keeps_to_itself (Hold named) = false
keeps_to_itself (Release named) = false
keeps_to_itself (Setlocale categories locale) = false
keeps_to_itself (LocaleName categories) = true
keeps_to_itself (Install key) = false
keeps_to_itself (Post cell named) = false
keeps_to_itself (Fetch variable owner cell) = false
keeps_to_itself (Pins named) = is_own_target named
keeps_to_itself (Read read) = true
keeps_to_itself (ReadOf object read) = false
keeps_to_itself (CatOpen variable name) = false
keeps_to_itself (CatGets catalog set message default) = false
keeps_to_itself (CatClose catalog) = false

-- whether all commands of a bundle do
abbrev pub all_keep_to_themselves : Bundle → Bool
all_keep_to_themselves bundle = list_all (λ (p : Placed). keeps_to_itself p.command) bundle.commands

-- ---- what their threads print

-- a line without the places of its calls, which count the calls of all threads
abbrev pub placeless : OutLine → OutLine
placeless l = record l { places = places.None }

-- a script whose threads keep to themselves prints the same whatever the schedule is: all lists of lines that it may print
-- are one, but for the places
abbrev pub PrintAlike : Type 0
PrintAlike =
    (c : Setting) (plan : PlanData) (A B : List OutLine) → all_keep_to_themselves plan.bundle ≡ true → Prints c plan A → Prints c plan B
    → map placeless A ≡ map placeless B
