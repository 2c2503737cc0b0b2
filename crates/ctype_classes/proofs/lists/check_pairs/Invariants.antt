use Rattle.std.proofs.Common.{◌≡◌, length}
use Rattle.lc_base.specs.declared.reason.Reason.TheVariants.{NotCased}
use Rattle.ctype_classes.specs.Lists.{is_cased_pair, each_passes}
use Rattle.ctype_classes.proofs.lists.check_pairs.Given as goal

abbrev pub invariant-loop-place : goal.invariant-loop-place
invariant-loop-place l = each_passes (is_cased_pair l.classes) NotCased l.walk ≡ each_passes (is_cased_pair l.classes) NotCased l.operands

abbrev pub decreases-loop-place : goal.decreases-loop-place
decreases-loop-place l = length l.walk
