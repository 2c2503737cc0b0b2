use Rattle.std.proofs.Common.{◌≡◌, ◌++◌, map, drop}
use Rattle.script_wishes.specs.Seen.{turn_seen}
use Rattle.script_wishes.specs.Turns.{releases}
use Rattle.script_serial.proofs.closing.push_releases.Given as goal

-- the turns so far, and those of the Holds that are left
abbrev pub invariant-loop-hold : goal.invariant-loop-hold
invariant-loop-hold l =
    map turn_seen l.turns.items ++ releases l.round l.thread (drop l.hold-index l.holds) ≡ map turn_seen l.initial.turns.items ++ releases l.round l.thread l.holds
