use Rattle.std.proofs.Common.{◌≡◌, ◌++◌, map}
use Rattle.std.specs.Prelude.{flat_map}
use Rattle.script_wishes.specs.Seen.{turn_seen, placed_seen}
use Rattle.script_wishes.specs.Turns.{thread_turns, turns_of_threads}
use Rattle.script_wishes.proofs.TurnLists.{left}
use Rattle.script_wishes.proofs.turns.push_round.Given as goal

-- the turns so far, and those of the threads that are left
abbrev pub invariant-loop-i : goal.invariant-loop-i
invariant-loop-i l =
    map turn_seen l.turns.items ++ flat_map (thread_turns (map placed_seen l.commands)) (left 0 l.threads l.i)
    ≡ map turn_seen l.initial.turns.items ++ turns_of_threads l.threads (map placed_seen l.commands)
