-- Lines that a script may print, at worked examples.
use Rattle.std.proofs.Common.{◌≡◌, ℕ, List, [], ◌∷◌, ◌++◌, None, refl, inl}
use Rattle.std.specs.Prelude.{map, codes}
use Rattle.lc_base.specs.declared.item.Item.TheVariants.{Radixchar}
use Rattle.handle_table.specs.Entry as table
use Rattle.handle_table.specs.Entry.{History, Setting}
use Rattle.lc_base.specs.declared.handle.Named.TheVariants as named
use Rattle.script_commands.specs.declared.command.Read.TheVariants.{Info}
use Rattle.script_commands.specs.declared.command.Target.TheVariants as targets
use Rattle.script_commands.specs.declared.command.Command.TheVariants.{New, Post, ReadOf}
use Rattle.script_out.specs.declared.output.OutLine.{OutLine}
use Rattle.script_out.specs.declared.output.Places.TheVariants as places
use Rattle.script_out.specs.declared.output.Said.TheVariants as said
use Rattle.script_plan.specs.Plan.{PlanData}
use Rattle.script_plan.specs.Serial.{setting}
use Rattle.script_plan.specs.Prints.{PlacedCall, with_tasks, all_places, calls_after, history_below, caller_of, callers_after, all_turns, AreAnswered}
use Rattle.script_plan.proofs.Examples.{plan, placed, line_of, first_of}

-- ---- A makes an object and posts it; B reads it by the handle; then both are closed. B's calls may come between A's

abbrev pub shared : PlanData
shared = plan (codes "A" ∷ codes "B" ∷ []) 1 (placed 1 0 (New (codes "x") 2 (codes "a") None ∷ Post 0 (targets.Variable (codes "x")) ∷ []) ++ placed 1 1 (ReadOf (targets.Handle (first_of 0)) (Info Radixchar) ∷ []))

abbrev c : Setting
c = setting shared 16 65535

abbrev between : List OutLine
between =
    line_of 1 0 1 (places.One 0) None (said.Handle (first_of 0))
    ∷ line_of 1 0 2 (places.One 2) None said.Posted
    ∷ line_of 1 1 1 (places.Two 1 3) None (said.Text (codes ","))
    ∷ line_of 2 0 3 (places.One 4) None said.Ended
    ∷ line_of 2 1 2 (places.One 5) None said.Ended ∷ []

in_order_of_lines : all_places between ≡ 0 ∷ 2 ∷ 1 ∷ 3 ∷ 4 ∷ 5 ∷ []
in_order_of_lines = refl

abbrev call : ℕ → ℕ → table.Op → PlacedCall
call place thread op = record { place = place; thread = thread; op = op }

-- a read of a handle is a Hold and a Release
calls_of_lines : calls_after shared.library [] (with_tasks (all_turns c shared between) between)
    ≡ call 0 0 (table.New 2 (0 ∷ 1 ∷ 0 ∷ 0 ∷ 0 ∷ []) None)
    ∷ call 2 0 (table.Post 0 (named.Of (first_of 0)))
    ∷ call 1 1 (table.Hold (named.Of (first_of 0)))
    ∷ call 3 1 (table.Release (named.Of (first_of 0)))
    ∷ call 4 0 table.End
    ∷ call 5 1 table.End ∷ []
calls_of_lines = refl

-- the history is in order of place
whose_calls : map (λ (e : table.Entry). e.who) (history_below c (calls_after shared.library [] (with_tasks (all_turns c shared between) between)) 6) ≡ 1 ∷ 0 ∷ 1 ∷ 0 ∷ 1 ∷ 0 ∷ []
whose_calls = refl

callers_between : map caller_of between ≡ callers_after [] (all_turns c shared between)
callers_between = refl

-- each line prints what its task asks for
answered_between : let ds = with_tasks (all_turns c shared between) between in AreAnswered c shared between [] (calls_after shared.library [] ds) [] ds
answered_between = (
  record { place = 0; is = refl },
  (
    record { place = 2; is = refl },
    (
      inl (record { hold = 1; release = 3; object = record { ctype = 0; numeric = 1; monetary = 0; time = 0; messages = 0 }; held = refl; released = refl; is = refl }),
      (
        record { place = 4; is = refl },
        (
          record { place = 5; is = refl },
          tt,
        ),
      ),
    ),
  ),
)
