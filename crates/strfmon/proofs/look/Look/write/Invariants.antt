use Rattle.std.proofs.Common.{◌≡◌, ◌+◌, ◌≤◌, ◌++◌, length, take, drop}
use Rattle.strfmon.specs.Looks.{parts_text}
use Rattle.strfmon.specs.Seen.{seen}
use Rattle.strfmon.proofs.look.Look.write.Given as goal

-- the parts from here on are written
abbrev pub invariant-loop-left : goal.invariant-loop-left
invariant-loop-left l = record {
  written : parts_text (seen l.self) l.parts ++ drop l.end l.initial.target ≡ parts_text (seen l.self) (take l.left l.parts) ++ drop l.at l.target;
  place : l.at + length (parts_text (seen l.self) l.parts) ≡ l.end + length (parts_text (seen l.self) (take l.left l.parts));
  few : l.left ≤ length l.parts;
  within : l.at ≤ length l.target;
}

abbrev pub decreases-loop-left : goal.decreases-loop-left
decreases-loop-left l = l.left
