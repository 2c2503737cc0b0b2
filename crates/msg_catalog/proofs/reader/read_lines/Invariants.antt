use Rattle.std.proofs.Common.{◌≡◌, length}
use Rattle.msg_catalog.specs.Cursors.{to_come}
use Rattle.msg_catalog.specs.Spots.{spots, lines}
use Rattle.msg_catalog.specs.Messages.{at_first, lines_read}
use Rattle.msg_catalog.proofs.reader.read_lines.Given as goal

abbrev pub invariant-loop-cursor : goal.invariant-loop-cursor
invariant-loop-cursor l = lines_read l.draft (lines (to_come l.cursor)) ≡ lines_read at_first (lines (spots l.first_line 1 l.text))

abbrev pub decreases-loop-cursor : goal.decreases-loop-cursor
decreases-loop-cursor l = length (to_come l.cursor)
