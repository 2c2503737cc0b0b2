use Rattle.std.proofs.Common.{◌≡◌, ◌≤◌, drop}
use Rattle.src_lines.specs.Places.{place_from}
use Rattle.src_lines.proofs.row.LogicalLine.place_at.Given as goal

abbrev pub invariant-loop-join : goal.invariant-loop-join
invariant-loop-join l = (l.at ≤ l.k) × (place_from l.line l.at (drop l.join-index l.self.joins.now) l.k ≡ place_from l.self.line 0 l.self.joins.now l.k)
