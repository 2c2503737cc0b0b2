use Rattle.std.proofs.Common.{◌≢◌, ℕ, ◌-◌, ◌<◌, ◌≤◌, length}
use Rattle.digit_groups.specs.Groups.{grouped_width}
use Rattle.int_format.proofs.read.count_in.Given as goal

-- no fewer digits are so wide
abbrev pub invariant-loop-k : goal.invariant-loop-k
invariant-loop-k l = record {
  not_yet : (j : ℕ) → 1 ≤ j → j < l.k → grouped_width j l.sizes (length l.sep) ≢ l.len;
  some : 1 ≤ l.k;
  few : l.k ≤ 21;
}

abbrev pub decreases-loop-k : goal.decreases-loop-k
decreases-loop-k l = 21 - l.k
