use Rattle.std.proofs.Common.{◌≡◌, length}
use Rattle.msg_catalog.specs.Cursors.{later}
use Rattle.msg_catalog.proofs.cursor.Cursor.next_line.Given as goal

abbrev pub invariant-loop-spot : goal.invariant-loop-spot
invariant-loop-spot l = later l.cursor ≡ later l.fn.self

abbrev pub decreases-loop-spot : goal.decreases-loop-spot
decreases-loop-spot l = length l.cursor.rest.now
