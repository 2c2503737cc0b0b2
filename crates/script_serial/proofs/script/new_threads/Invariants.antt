use Rattle.std.proofs.Common.{◌≡◌, length}
use Rattle.std.specs.Prelude.{All}
use Rattle.script_plan.specs.Serial.{begun}
use Rattle.script_serial.specs.Session.{ThreadData, Follows, AreNumbered}
use Rattle.script_serial.proofs.script.new_threads.Given as goal

-- the threads so far
abbrev pub invariant-loop-number : goal.invariant-loop-number
invariant-loop-number l = record {
  length : length l.threads.items ≡ l.number;
  numbered : AreNumbered 0 l.threads.items;
  follow : All (λ (t : ThreadData). Follows t begun) l.threads.items;
}
