use Rattle.std.proofs.Common.{◌≡◌, length}
use Rattle.locale_reader.specs.Values.{members}
use Rattle.locale_reader.proofs.Lists.{after}
use Rattle.locale_reader.proofs.character.members.Given as goal

abbrev pub invariant-loop-left : goal.invariant-loop-left
invariant-loop-left l = after l.values (members l.charset l.left) ≡ members l.charset l.operands

abbrev pub decreases-loop-left : goal.decreases-loop-left
decreases-loop-left l = length l.left
