use Rattle.std.proofs.Common.{◌≡◌, ◌++◌, map, drop}
use Rattle.std.specs.Prelude.{flat_map}
use Rattle.script_wishes.specs.Seen.{turn_seen}
use Rattle.script_serial.specs.Session.{ThreadData}
use Rattle.script_wishes.specs.Turns.{closing}
use Rattle.script_serial.proofs.closing.closing_turns.Given as goal

-- the turns so far, and those of the threads that are left
abbrev pub invariant-loop-thread : goal.invariant-loop-thread
invariant-loop-thread l =
    map turn_seen l.turns.items ++ flat_map (λ (t : ThreadData). closing l.round t.side.number t.side.holds) (drop l.thread-index l.threads)
    ≡ flat_map (λ (t : ThreadData). closing l.round t.side.number t.side.holds) l.threads
