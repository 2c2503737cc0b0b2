use Rattle.std.proofs.Common.{◌≡◌, ◌-◌, ◌≤◌, length}
use Rattle.src_lines.specs.Rows.{line_of}
use Rattle.src_lines.specs.Atoms.{items_from}
use Rattle.src_lines.specs.Tokens.{run}
use Rattle.src_lines.proofs.Runs.{after}
use Rattle.src_lines.proofs.text.run.Given as goal

abbrev pub invariant-loop-atoms : goal.invariant-loop-atoms
invariant-loop-atoms l = record {
  within : l.end ≤ length l.row.bytes.now;
  forward : l.at ≤ l.end;
  is : after l.atoms (run l.run_end (items_from (line_of l.row) l.end)) ≡ run l.run_end (items_from (line_of l.row) l.at);
}

abbrev pub decreases-loop-atoms : goal.decreases-loop-atoms
decreases-loop-atoms l = length l.row.bytes.now - l.end
