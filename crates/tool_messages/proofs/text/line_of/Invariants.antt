use Rattle.std.proofs.Common.{length}
use Rattle.tool_messages.proofs.text.line_of.Given as goal

abbrev pub decreases-loop-line : goal.decreases-loop-line
decreases-loop-line l = length l.rest
