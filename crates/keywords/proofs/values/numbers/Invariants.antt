use Rattle.std.proofs.Common.{◌≡◌, ◌++◌, length}
use Rattle.keywords.specs.Keywords.{numbers}
use Rattle.keywords.proofs.values.numbers.Given as goal

-- what was found is in front of what is still to be found
abbrev pub invariant-loop-value : goal.invariant-loop-value
invariant-loop-value l = l.found.items ++ numbers l.walk ≡ numbers l.values

abbrev pub decreases-loop-value : goal.decreases-loop-value
decreases-loop-value l = length l.walk
