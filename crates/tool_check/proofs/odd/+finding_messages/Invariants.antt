use Rattle.std.proofs.Common.{length}
use Rattle.tool_check.proofs.odd.+finding_messages.Given as goal

abbrev pub decreases-finding_messages : goal.decreases-finding_messages
decreases-finding_messages l = length l.findings.now
