use Rattle.std.proofs.Common.{◌≡◌, ◌≤◌, length, drop}
use Rattle.ctype_classes.specs.Case.{map_of}
use Rattle.ctype_classes.proofs.case.entries_of.Given as goal

abbrev pub invariant-loop-left : goal.invariant-loop-left
invariant-loop-left l = record {
  entries : l.entries.entries ≡ map_of (drop l.left l.pairs);
  within : l.left ≤ length l.pairs;
}

abbrev pub decreases-loop-left : goal.decreases-loop-left
decreases-loop-left l = l.left
