-- Lines that are judged by one history, at worked examples.
use Rattle.std.proofs.Common.{◌≡◌, ℕ, ◌+◌, ◌<◌, List, [], ◌∷◌, length, None, refl, arith, All}
use Rattle.std.specs.Prelude.{codes}
use Rattle.std.proofs.lemmas.List.Elements.{All-nil, All-cons}
use Rattle.lc_base.specs.declared.item.Item.TheVariants.{Radixchar}
use Rattle.handle_table.specs.Entry as table
use Rattle.handle_table.specs.Entry.{Entry, History, Setting}
use Rattle.lc_base.specs.declared.handle.Named.{Named}
use Rattle.lc_base.specs.declared.handle.Named.TheVariants as named
use Rattle.script_commands.specs.declared.command.Read.TheVariants.{Info}
use Rattle.script_commands.specs.declared.command.Target.TheVariants as targets
use Rattle.script_commands.specs.declared.command.Command.TheVariants.{New, Post, ReadOf}
use Rattle.script_out.specs.declared.output.Places.{Places}
use Rattle.script_out.specs.declared.output.Places.TheVariants as places
use Rattle.script_out.specs.declared.output.Said.{Said}
use Rattle.script_out.specs.declared.output.Said.TheVariants as said
use Rattle.script_lines.specs.Catalogs.{not_asked}
use Rattle.script_lines.specs.Outcome.{with_call}
use Rattle.script_wishes.specs.Turns.{Task, Runs, Ends}
use Rattle.script_plan.specs.Prints.{PlacedCall}
use Rattle.script_plan.specs.Serial.{setting}
use Rattle.script_plan.proofs.Examples.{line_of, first_of}
use Rattle.script_plan.proofs.PrintsExamples.{shared}
use Rattle.script_run.specs.Timed.{oldest, places_by, Timed, end_of, AreTimed, placed_back, own_lines, IsEntryOf, AreRight, in_rounds_before, in_rounds_to, IsInRound}

-- ---- what stands before a place, and whose places they are

abbrev by : ℕ → Entry
by thread = record { who = thread; op = table.End; reply = table.Ended }

abbrev H : History
H = by 1 ∷ by 0 ∷ by 1 ∷ by 0 ∷ []

before_all : oldest 0 H ≡ []
before_all = refl

before_the_third : oldest 2 H ≡ by 1 ∷ by 0 ∷ []
before_the_third = refl

behind_all : oldest 9 H ≡ H
behind_all = refl

of_the_first : places_by 0 H ≡ 2 ∷ 0 ∷ []
of_the_first = refl

of_the_second : places_by 1 H ≡ 3 ∷ 1 ∷ []
of_the_second = refl

of_nobody : places_by 2 H ≡ []
of_nobody = refl

-- ---- lines with their moments: A makes an object and posts it; B reads it by the handle, between A's calls; then both are closed

abbrev timed : Task → ℕ → ℕ → ℕ → ℕ → Places → Said → Timed
timed task moment round thread index at reply = record { task_line = record { task = task; line = line_of round thread index at None reply }; moment = moment; stamp = moment; op = None; asked = not_asked }

abbrev made : Timed
made = timed (Runs (New (codes "x") 2 (codes "a") None)) 0 1 0 1 (places.One 0) (said.Handle (first_of 0))

abbrev posted : Timed
posted = timed (Runs (Post 0 (targets.Variable (codes "x")))) 2 1 0 2 (places.One 2) said.Posted

abbrev read : Timed
read = timed (Runs (ReadOf (targets.Handle (first_of 0)) (Info Radixchar))) 1 1 1 1 (places.Two 1 3) (said.Text (codes ","))

abbrev ended : Timed
ended = timed Ends 4 2 0 3 (places.One 4) said.Ended

abbrev other_ended : Timed
other_ended = timed Ends 5 2 1 2 (places.One 5) said.Ended

-- a line without a place
abbrev unplaced : ℕ → Timed
unplaced moment = timed Ends moment 1 0 1 places.None said.Ended

abbrev all : List Timed
all = other_ended ∷ ended ∷ read ∷ posted ∷ made ∷ []

end_of_a_call : end_of posted ≡ 3
end_of_a_call = refl

end_of_a_read : end_of read ≡ 4
end_of_a_read = refl

end_of_no_call : end_of (unplaced 7) ≡ 7
end_of_no_call = refl

back : placed_back all ≡ 5 ∷ 4 ∷ 3 ∷ 1 ∷ 2 ∷ 0 ∷ []
back = refl

of_one : own_lines 1 all ≡ other_ended ∷ read ∷ []
of_one = refl

-- ---- moments do not go back along a thread

goes_on : AreTimed (own_lines 0 all)
goes_on = (omega arith, (omega arith, (omega arith, tt)))

goes_on_too : AreTimed (own_lines 1 all)
goes_on_too = (omega arith, (omega arith, tt))

-- what was read at the end of a call may be read there again, and not before it
read_again : AreTimed (unplaced 3 ∷ unplaced 3 ∷ posted ∷ [])
read_again = (omega arith, (omega arith, (omega arith, tt)))

goes_back : AreTimed (unplaced 2 ∷ posted ∷ []) → ⊥
goes_back timed = omega (arith, timed.0)

-- ---- each line in its round

before_closing : placed_back (in_rounds_before 2 all) ≡ 3 ∷ 1 ∷ 2 ∷ 0 ∷ []
before_closing = refl

before_the_first : placed_back (in_rounds_before 1 all) ≡ []
before_the_first = refl

up_to_closing : placed_back (in_rounds_to 2 all) ≡ placed_back all
up_to_closing = refl

read_in_its_round : IsInRound all read
read_in_its_round = record { since = omega arith; until = omega arith }

ended_in_its_round : IsInRound all ended
ended_in_its_round = record { since = omega arith; until = omega arith }

-- an end that stands among the calls of the round before
too_early : IsInRound all (record ended { moment = 3 }) → ⊥
too_early is = omega (arith, is.since)

-- a read of the global locale after the calls of its round
too_late : IsInRound all (unplaced 5) → ⊥
too_late is = omega (arith, is.until)

-- ---- each line prints what its task asks for, by what stood before its places

abbrev c : Setting
c = setting shared 16 65535

abbrev h : Named
h = named.Of (first_of 0)

abbrev W : History
W =
    let calls = with_call c (with_call c (with_call c (with_call c [] 0 (table.New 2 (0 ∷ 1 ∷ 0 ∷ 0 ∷ 0 ∷ []) None)) 1 (table.Hold h)) 0 (table.Post 0 h)) 1 (table.Release h) in
    with_call c (with_call c calls 0 table.End) 1 table.End

abbrev call : ℕ → ℕ → table.Op → PlacedCall
call place thread op = record { place = place; thread = thread; op = op }

one : (k : PlacedCall) → k.place < length W → oldest (k.place + 1) W ≡ with_call c (oldest k.place W) k.thread k.op → All (IsEntryOf c W) (k ∷ [])
one k within entry = All-cons (IsEntryOf c W) k [] (record { within = within; entry = entry }) (All-nil (IsEntryOf c W))

two : (k l : PlacedCall) → IsEntryOf c W k → IsEntryOf c W l → All (IsEntryOf c W) (k ∷ l ∷ [])
two k l first second = All-cons (IsEntryOf c W) k (l ∷ []) first (All-cons (IsEntryOf c W) l [] second (All-nil (IsEntryOf c W)))

pub right_by_it : AreRight c shared W all
right_by_it = (
  record { within = omega arith; since = omega arith; index = refl; line = refl; entries = one (call 5 1 table.End) (omega arith) refl; op = refl },
  (
    record { within = omega arith; since = omega arith; index = refl; line = refl; entries = one (call 4 0 table.End) (omega arith) refl; op = refl },
    (
      record {
        within = omega arith;
        since = omega arith;
        index = refl;
        line = refl;
        entries = two (call 1 1 (table.Hold h)) (call 3 1 (table.Release h)) (record { within = omega arith; entry = refl }) (record { within = omega arith; entry = refl });
        op = refl;
      },
      (
        record { within = omega arith; since = omega arith; index = refl; line = refl; entries = one (call 2 0 (table.Post 0 h)) (omega arith) refl; op = refl },
        (
          record {
            within = omega arith;
            since = omega arith;
            index = refl;
            line = refl;
            entries = one (call 0 0 (table.New 2 (0 ∷ 1 ∷ 0 ∷ 0 ∷ 0 ∷ []) None)) (omega arith) refl;
            op = refl;
          },
          tt,
        ),
      ),
    ),
  ),
)
