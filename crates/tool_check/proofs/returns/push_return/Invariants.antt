use Rattle.std.proofs.Common.{◌≡◌, length}
use Rattle.lc_base.specs.Lines.{lines_of}
use Rattle.tool_check.specs.Findings.{return_findings}
use Rattle.tool_check.proofs.returns.push_return.Given as goal

-- nothing is found so far, and what is found of the rest is found of all
abbrev pub invariant-loop-line : goal.invariant-loop-line
invariant-loop-line l = record {
  none : l.found.items ≡ l.fn.found.items;
  rest : return_findings l.number (lines_of l.rest) ≡ return_findings 1 (lines_of l.text);
}

abbrev pub decreases-loop-line : goal.decreases-loop-line
decreases-loop-line l = length l.rest
