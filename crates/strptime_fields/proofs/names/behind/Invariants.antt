use Rattle.std.proofs.Common.{◌≡◌, length}
use Rattle.strptime_fields.specs.Reading.{behind}
use Rattle.strptime_fields.proofs.names.behind.Given as goal

abbrev pub invariant-loop-name : goal.invariant-loop-name
invariant-loop-name l = behind l.name l.left ≡ behind l.initial.name l.initial.left

abbrev pub decreases-loop-name : goal.decreases-loop-name
decreases-loop-name l = length l.name
