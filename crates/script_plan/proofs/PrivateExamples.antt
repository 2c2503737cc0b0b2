-- Commands that keep to their thread, at worked examples.
use Rattle.std.proofs.Common.{◌≡◌, true, false, List, [], ◌∷◌, Some, None, refl}
use Rattle.std.specs.Prelude.{codes}
use Rattle.script_words.specs.declared.categories.CategoryArgument.TheVariants.{All}
use Rattle.script_commands.specs.declared.command.Command.{Command}
use Rattle.script_commands.specs.declared.command.Command.TheVariants.{New, Dup, Free, Use, Selected, Hold, Release, Setlocale, LocaleName, Install, Post, Fetch, Pins, Read, ReadOf}
use Rattle.script_commands.specs.declared.command.Read.TheVariants.{Conv}
use Rattle.script_commands.specs.declared.command.Target.{Target}
use Rattle.script_commands.specs.declared.command.Target.TheVariants as targets
use Rattle.script_out.specs.declared.output.OutLine.{OutLine}
use Rattle.script_out.specs.declared.output.Places.{Places}
use Rattle.script_out.specs.declared.output.Places.TheVariants as places
use Rattle.script_out.specs.declared.output.Said.TheVariants as said
use Rattle.script_lang.specs.declared.bundle.Bundle.{Bundle}
use Rattle.script_plan.proofs.Examples.{plan, placed}
use Rattle.script_plan.specs.Private.{keeps_to_itself, all_keep_to_themselves, placeless}

-- a variable, and a handle that is written out: `A.0.1`
abbrev x : Target
x = targets.Variable (codes "x")

abbrev written : Target
written = targets.Handle (record { owner = 0; row = 0; generation = 1 })

-- ---- each command

made : keeps_to_itself (New (codes "x") 31 (codes "a") None) ≡ true
made = refl

made_of_a_variable : keeps_to_itself (New (codes "x") 31 (codes "a") (Some x)) ≡ true
made_of_a_variable = refl

made_of_the_global_locale : keeps_to_itself (New (codes "x") 31 (codes "a") (Some targets.Global)) ≡ true
made_of_the_global_locale = refl

made_of_a_handle : keeps_to_itself (New (codes "x") 31 (codes "a") (Some written)) ≡ false
made_of_a_handle = refl

copied : keeps_to_itself (Dup (codes "y") x) ≡ true
copied = refl

copied_from_a_handle : keeps_to_itself (Dup (codes "y") written) ≡ false
copied_from_a_handle = refl

freed : keeps_to_itself (Free x) ≡ true
freed = refl

freed_by_a_handle : keeps_to_itself (Free written) ≡ false
freed_by_a_handle = refl

selected : keeps_to_itself (Use x) ≡ true
selected = refl

selected_by_a_handle : keeps_to_itself (Use written) ≡ false
selected_by_a_handle = refl

selection_asked : keeps_to_itself Selected ≡ true
selection_asked = refl

held : keeps_to_itself (Hold x) ≡ false
held = refl

released : keeps_to_itself (Release x) ≡ false
released = refl

set_for_all : keeps_to_itself (Setlocale All (codes "a")) ≡ false
set_for_all = refl

name_asked : keeps_to_itself (LocaleName All) ≡ true
name_asked = refl

installed : keeps_to_itself (Install (codes "k")) ≡ false
installed = refl

posted : keeps_to_itself (Post 0 x) ≡ false
posted = refl

fetched : keeps_to_itself (Fetch (codes "x") 0 0) ≡ false
fetched = refl

counted : keeps_to_itself (Pins x) ≡ true
counted = refl

counted_by_a_handle : keeps_to_itself (Pins written) ≡ false
counted_by_a_handle = refl

read : keeps_to_itself (Read Conv) ≡ true
read = refl

read_of_a_variable : keeps_to_itself (ReadOf x Conv) ≡ false
read_of_a_variable = refl

-- ---- a bundle: one fetch of one thread is enough

abbrev bundle : List Command → Bundle
bundle commands = (plan (codes "A" ∷ codes "B" ∷ []) 1 (placed 1 1 commands)).bundle

alone : all_keep_to_themselves (bundle (New (codes "x") 31 (codes "a") None ∷ Use x ∷ Read Conv ∷ Free x ∷ [])) ≡ true
alone = refl

with_a_fetch : all_keep_to_themselves (bundle (New (codes "x") 31 (codes "a") None ∷ Fetch (codes "y") 0 0 ∷ Read Conv ∷ [])) ≡ false
with_a_fetch = refl

-- ---- a line without its places

abbrev line : Places → OutLine
line at = record { round = 1; thread = 1; index = 2; places = at; global = None; reply = said.Freed }

without_places : placeless (line (places.One 7)) ≡ line places.None
without_places = refl
