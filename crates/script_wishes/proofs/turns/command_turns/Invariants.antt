use Rattle.std.proofs.Common.{◌≡◌, ◌++◌, map, length}
use Rattle.std.specs.Prelude.{flat_map}
use Rattle.script_wishes.specs.Seen.{turn_seen}
use Rattle.script_wishes.specs.Turns.{round_turns, command_turns}
use Rattle.script_wishes.proofs.TurnLists.{left}
use Rattle.script_wishes.proofs.turns.command_turns.Given as goal

-- the turns so far, and those of the rounds that are left
abbrev pub invariant-loop-i : goal.invariant-loop-i
invariant-loop-i l =
    map turn_seen l.turns.items ++ flat_map (round_turns (length l.bundle.threads) l.bundle.commands) (left 1 l.bundle.rounds l.i) ≡ command_turns l.bundle
