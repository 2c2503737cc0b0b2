use Rattle.std.proofs.Common.{length}
use Rattle.tool_files.proofs.sized.+are_sized.Given as goal

abbrev pub decreases-are_sized : goal.decreases-are_sized
decreases-are_sized l = length l.blocks.now
