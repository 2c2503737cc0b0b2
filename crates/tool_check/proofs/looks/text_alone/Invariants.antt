use Rattle.std.proofs.Common.{◌≡◌, ◌++◌, length}
use Rattle.std.specs.List.{flat_map}
use Rattle.lc_base.specs.Lines.{lines_of, ended}
use Rattle.tool_check.specs.Looks.{lines_alone, text_alone}
use Rattle.tool_check.proofs.looks.text_alone.Given as goal

-- the lines so far, and those of the rest
abbrev pub invariant-loop-line : goal.invariant-loop-line
invariant-loop-line l = l.alone.items ++ flat_map ended (lines_alone l.look l.passed (lines_of l.rest)) ≡ text_alone l.look l.text

abbrev pub decreases-loop-line : goal.decreases-loop-line
decreases-loop-line l = length l.rest
