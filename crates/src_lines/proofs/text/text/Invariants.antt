use Rattle.std.proofs.Common.{◌≡◌, ◌-◌, ◌≤◌, length, map}
use Rattle.src_lines.specs.Rows.{line_of}
use Rattle.src_lines.specs.Places.{place_at}
use Rattle.src_lines.specs.Atoms.{piece, items_from}
use Rattle.src_lines.specs.Tokens.{text}
use Rattle.src_lines.proofs.Runs.{after}
use Rattle.src_lines.proofs.text.text.Given as goal

abbrev pub invariant-loop-atoms : goal.invariant-loop-atoms
invariant-loop-atoms l = record {
  within : l.end ≤ length l.row.bytes.now;
  forward : l.at ≤ l.end;
  is : after (map piece l.atoms) (text (place_at (line_of l.row) l.quote) (items_from (line_of l.row) l.end)) ≡ text (place_at (line_of l.row) l.quote) (items_from (line_of l.row) l.at);
}

abbrev pub decreases-loop-atoms : goal.decreases-loop-atoms
decreases-loop-atoms l = length l.row.bytes.now - l.end
