use Rattle.std.proofs.Common.{length}
use Rattle.gnu_read.proofs.mark.from_word.Given as goal

abbrev pub decreases-loop-left : goal.decreases-loop-left
decreases-loop-left l = length l.left
