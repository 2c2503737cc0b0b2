use Rattle.std.proofs.Common.{◌≡◌, ◌++◌, map, drop}
use Rattle.script_wishes.specs.Seen.{placed_seen}
use Rattle.script_wishes.specs.Turns.{in_round}
use Rattle.script_wishes.proofs.turns.in_round.Given as goal

-- those so far, and those among the commands that are left
abbrev pub invariant-loop-command : goal.invariant-loop-command
invariant-loop-command l = map placed_seen l.those.items ++ in_round l.round (drop l.command-index l.commands) ≡ in_round l.round l.commands
