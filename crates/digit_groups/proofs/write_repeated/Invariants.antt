use Rattle.std.proofs.Common.{◌≡◌, ◌+◌, ◌≤◌, ◌++◌, length, drop, replicate}
use Rattle.digit_groups.proofs.write_repeated.Given as goal

abbrev pub invariant-loop : goal.invariant-loop
invariant-loop l = record {
  written : drop l.at l.target ≡ replicate l.counter l.byte ++ drop l.end l.initial.target;
  place : l.at + l.counter ≡ l.end;
  within : l.at ≤ length l.target;
}
