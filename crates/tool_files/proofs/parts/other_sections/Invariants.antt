use Rattle.std.proofs.Common.{◌-◌, ◌≤◌, length}
use Rattle.tool_files.proofs.parts.other_sections.Given as goal

abbrev pub invariant-loop-i : goal.invariant-loop-i
invariant-loop-i l = l.i ≤ length l.lines

abbrev pub decreases-loop-i : goal.decreases-loop-i
decreases-loop-i l = length l.lines - l.i
