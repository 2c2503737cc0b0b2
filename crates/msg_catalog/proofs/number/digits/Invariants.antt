use Rattle.std.proofs.Common.{◌≡◌, ◌≤◌, length}
use Rattle.msg_catalog.specs.Cursors.{line_of}
use Rattle.msg_catalog.specs.Numbers.{number_from}
use Rattle.msg_catalog.proofs.number.digits.Given as goal

abbrev pub invariant-loop-spot : goal.invariant-loop-spot
invariant-loop-spot l = record {
  is : number_from l.value (line_of l.rest) ≡ number_from 0 (line_of l.fn.cursor);
  most : l.value ≤ l.most;
}

abbrev pub decreases-loop-spot : goal.decreases-loop-spot
decreases-loop-spot l = length l.rest.rest.now
