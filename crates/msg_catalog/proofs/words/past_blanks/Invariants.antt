use Rattle.std.proofs.Common.{◌≡◌, length}
use Rattle.msg_catalog.specs.Cursors.{line_of}
use Rattle.msg_catalog.specs.Words.{past_blanks}
use Rattle.msg_catalog.proofs.words.past_blanks.Given as goal

abbrev pub invariant-loop-spot : goal.invariant-loop-spot
invariant-loop-spot l = past_blanks (line_of l.rest) ≡ past_blanks (line_of l.fn.cursor)

abbrev pub decreases-loop-spot : goal.decreases-loop-spot
decreases-loop-spot l = length l.rest.rest.now
