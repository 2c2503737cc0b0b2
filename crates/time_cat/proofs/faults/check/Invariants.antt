use Rattle.std.proofs.Common.{◌≡◌, drop}
use Rattle.time_cat.specs.Faults.{checked}
use Rattle.time_cat.proofs.faults.check.Given as goal

abbrev pub invariant-loop-entry : goal.invariant-loop-entry
invariant-loop-entry l = checked (drop l.entry-index l.entries) ≡ checked l.entries
