use Rattle.std.proofs.Common.{◌≡◌, length}
use Rattle.msg_catalog.specs.Cursors.{line_of}
use Rattle.msg_catalog.specs.Texts.{read_text, joined, decoded}
use Rattle.msg_catalog.proofs.text.decoded.Given as goal

abbrev pub invariant-loop-spot : goal.invariant-loop-spot
invariant-loop-spot l = joined (read_text l.text) (decoded l.end 0 (line_of l.rest)) ≡ decoded l.end 0 (line_of l.fn.cursor)

abbrev pub decreases-loop-spot : goal.decreases-loop-spot
decreases-loop-spot l = length l.rest.rest.now
