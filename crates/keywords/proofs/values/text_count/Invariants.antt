use Rattle.std.proofs.Common.{◌≡◌, ◌+◌, ◌≤◌, length}
use Rattle.keywords.specs.Keywords.{texts}
use Rattle.keywords.proofs.values.text_count.Given as goal

-- all that is still to come is counted, and of what came the texts
abbrev pub invariant-loop-value : goal.invariant-loop-value
invariant-loop-value l = record {
  within : length l.walk ≤ l.count;
  is : l.count + length (texts l.walk) ≡ length (texts l.values) + length l.walk;
}

abbrev pub decreases-loop-value : goal.decreases-loop-value
decreases-loop-value l = length l.walk
