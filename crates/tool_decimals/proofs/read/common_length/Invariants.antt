use Rattle.std.proofs.Common.{◌≡◌, ◌+◌, ◌≤◌, drop, length, nat_eq}
use Rattle.std.specs.List.{common_prefix_len}
use Rattle.tool_decimals.proofs.read.common_length.Given as goal

-- what the texts have in common so far, and behind it
abbrev pub invariant-loop-at : goal.invariant-loop-at
invariant-loop-at l = record {
  so_far : l.at + common_prefix_len nat_eq (drop l.at l.text) (drop l.at l.other) ≡ common_prefix_len nat_eq l.text l.other;
  within : l.at ≤ length l.text;
}
