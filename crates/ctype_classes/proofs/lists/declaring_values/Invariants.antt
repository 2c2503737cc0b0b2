use Rattle.std.proofs.Common.{◌≡◌, length}
use Rattle.ctype_classes.specs.Lists.{declaring_values}
use Rattle.ctype_classes.proofs.lists.declaring_values.Given as goal

abbrev pub invariant-loop-place : goal.invariant-loop-place
invariant-loop-place l = declaring_values l.charset l.list l.classes l.walk ≡ declaring_values l.charset l.list l.fn.classes l.fn.operands

abbrev pub decreases-loop-place : goal.decreases-loop-place
decreases-loop-place l = length l.walk
