use Rattle.std.proofs.Common.{length, ◌-◌, ◌≡◌, ℕ, ◌≤◌, drop}
use Rattle.src_lines.specs.Places.{place_from}
use Rattle.src_lines.proofs.row.advanced.Given as goal

abbrev pub invariant-loop-mark : goal.invariant-loop-mark
invariant-loop-mark l = record {
  reached : l.mark.at ≤ l.k;
  same : (m : ℕ) → l.k ≤ m → place_from l.mark.line l.mark.at (drop l.mark.next l.joins) m ≡ place_from l.initial.mark.line l.initial.mark.at (drop l.initial.mark.next l.joins) m;
}

abbrev pub decreases-loop-mark : goal.decreases-loop-mark
decreases-loop-mark l = length l.joins - l.mark.next
