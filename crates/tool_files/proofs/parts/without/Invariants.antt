use Rattle.std.proofs.Common.{◌≡◌, ◌++◌, length}
use Rattle.lc_base.specs.Lines.{lines_of}
use Rattle.tool_files.proofs.parts.without.Given as goal

-- the lines so far and those of the rest are as many as those of the text
abbrev pub invariant-loop-line : goal.invariant-loop-line
invariant-loop-line l = length (lines_of (l.kept.items ++ l.rest)) ≡ length (lines_of l.text)

abbrev pub decreases-loop-line : goal.decreases-loop-line
decreases-loop-line l = length l.rest
