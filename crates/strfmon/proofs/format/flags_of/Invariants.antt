use Rattle.std.proofs.Common.{◌≡◌, ◌-◌, ◌≤◌, length, drop}
use Rattle.digit_groups.specs.Numbers.{further}
use Rattle.strfmon.specs.Formats.{flags, flags_behind}
use Rattle.strfmon.proofs.format.flags_of.Given as goal

abbrev pub invariant-loop-at : goal.invariant-loop-at
invariant-loop-at l = record {
  rest : flags l.bytes ≡ further l.at (flags_behind 0 l.flags (drop l.at l.bytes));
  within : l.at ≤ length l.bytes;
}

abbrev pub decreases-loop-at : goal.decreases-loop-at
decreases-loop-at l = length l.bytes - l.at
