use Rattle.std.proofs.Common.{◌≡◌, ◌-◌, ◌≤◌, length, drop}
use Rattle.tool_check.specs.Findings.{unknown_findings}
use Rattle.tool_check.proofs.headers.push_unknown.Given as goal

-- nothing is found so far, and what is found of the lines that are left is found of all
abbrev pub invariant-loop-i : goal.invariant-loop-i
invariant-loop-i l = record {
  within : l.i ≤ length l.lines;
  none : l.found.items ≡ l.fn.found.items;
  so_far : unknown_findings 0 (drop l.i l.lines) ≡ unknown_findings 0 l.lines;
}

abbrev pub decreases-loop-i : goal.decreases-loop-i
decreases-loop-i l = length l.lines - l.i
