use Rattle.std.proofs.Common.{◌≡◌, ◌++◌, map, drop}
use Rattle.script_wishes.specs.Seen.{turn_seen, placed_seen}
use Rattle.script_wishes.specs.Turns.{thread_turns}
use Rattle.script_wishes.proofs.turns.push_thread.Given as goal

-- the turns so far, and those of the commands that are left
abbrev pub invariant-loop-command : goal.invariant-loop-command
invariant-loop-command l =
    map turn_seen l.turns.items ++ thread_turns (map placed_seen (drop l.command-index l.commands)) l.thread
    ≡ map turn_seen l.initial.turns.items ++ thread_turns (map placed_seen l.commands) l.thread
