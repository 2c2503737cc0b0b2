use Rattle.std.proofs.Common.{◌≡◌, ℕ, ◌-◌, ◌≤◌, length, drop}
use Rattle.src_lines.specs.Rows.{line_of}
use Rattle.src_lines.specs.Places.{place_at, place_from}
use Rattle.src_lines.specs.Atoms.{items_from}
use Rattle.src_lines.specs.Tokens.{operands}
use Rattle.src_lines.proofs.Operands.{listed}
use Rattle.src_lines.proofs.operand.operands_at.Given as goal

abbrev pub invariant-loop : goal.invariant-loop
invariant-loop l = record {
  within : l.at ≤ length l.row.bytes.now;
  reached : l.mark.at ≤ l.at;
  same : (m : ℕ) → l.at ≤ m → place_from l.mark.line l.mark.at (drop l.mark.next l.row.joins.now) m ≡ place_at (line_of l.row) m;
  is : listed l.found.items (operands (65536 - l.counter) (place_at (line_of l.row) (length l.row.bytes.now)) (items_from (line_of l.row) l.at)) ≡ operands 65536 (place_at (line_of l.row) (length l.row.bytes.now)) (items_from (line_of l.row) l.start);
}
