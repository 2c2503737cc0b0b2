use Rattle.std.proofs.Common.{◌≡◌, ◌+◌, ◌≤◌, length, take, drop, ◌++◌}
use Rattle.digit_groups.proofs.write_before.Given as goal

-- the bytes of the piece from here on are written
abbrev pub invariant-loop-left : goal.invariant-loop-left
invariant-loop-left l = record {
  written : l.piece ++ drop l.end l.initial.target ≡ take l.left l.piece ++ drop l.at l.target;
  place : l.at + length l.piece ≡ l.end + l.left;
  few : l.left ≤ length l.piece;
  within : l.at ≤ length l.target;
}

abbrev pub decreases-loop-left : goal.decreases-loop-left
decreases-loop-left l = l.left
