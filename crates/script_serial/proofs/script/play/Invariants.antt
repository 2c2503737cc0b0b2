use Rattle.std.proofs.Common.{◌≡◌, ◌+◌, ◌*◌, length, map}
use Rattle.script_wishes.specs.Seen.{turn_seen}
use Rattle.script_plan.specs.Serial.{Run}
use Rattle.script_serial.specs.Session.{AreAt, AreNumbered, GoesOn}
use Rattle.script_serial.proofs.RunLemmas.{PlaysOn}
use Rattle.script_serial.proofs.script.play.Given as goal

-- the lines so far are those of the script after so many turns, from wherever it began
abbrev pub invariant-loop-turn : goal.invariant-loop-turn
invariant-loop-turn l = record {
  threads : length l.threads ≡ length l.initial.threads;
  numbered : AreNumbered (length l.lines.items) l.threads;
  lines : length l.lines.items ≡ length l.initial.lines.items + l.turn-index;
  on : GoesOn (2 * l.turn-index) l.initial.alone l.alone;
  plays : (start : Run) → AreAt l.initial.alone l.initial.threads start → start.lines ≡ l.initial.lines.items
      → (run : Run) × PlaysOn l.initial.alone.table.setting l.library l.books (map turn_seen l.turns) start l.alone l.threads l.lines.items l.turn-index run;
}
