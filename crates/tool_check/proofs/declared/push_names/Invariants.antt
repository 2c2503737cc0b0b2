use Rattle.std.proofs.Common.{length}
use Rattle.tool_check.proofs.declared.push_names.Given as goal

abbrev pub decreases-loop-value : goal.decreases-loop-value
decreases-loop-value l = length l.walk
