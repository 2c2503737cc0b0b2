use Rattle.std.proofs.Common.{◌≡◌, ◌-◌, ◌≤◌, length}
use Rattle.src_lines.specs.Rows.{line_of}
use Rattle.src_lines.specs.Atoms.{items_from}
use Rattle.src_lines.specs.Tokens.{is_closed}
use Rattle.src_lines.proofs.text.is_closed.Given as goal

abbrev pub invariant-loop-read : goal.invariant-loop-read
invariant-loop-read l = record {
  within : l.end ≤ length l.row.bytes.now;
  is : is_closed (items_from (line_of l.row) l.end) ≡ is_closed (items_from (line_of l.row) l.at);
}

abbrev pub decreases-loop-read : goal.decreases-loop-read
decreases-loop-read l = length l.row.bytes.now - l.end
