use Rattle.std.proofs.Common.{◌≡◌, ℕ, ◌+◌, ◌<◌, ◌≤◌}
use Rattle.std.specs.Int.{bit_at}
use Rattle.class_ranges.specs.Ranges.{covers}
use Rattle.class_ranges.specs.Pages.{has_bit}
use Rattle.class_ranges.proofs.page.word_from.Given as goal

abbrev pub invariant-loop-k : goal.invariant-loop-k
invariant-loop-k l = record {
  done : (j : ℕ) → j < l.k → has_bit l.word j ≡ covers l.ranges (l.first + j);
  empty : (j : ℕ) → l.k ≤ j → bit_at l.word j ≡ 0;
  alike : (v : ℕ) → l.first + l.k ≤ v → v ≤ l.stretch.last → covers l.ranges v ≡ l.stretch.is_in;
}
