use Rattle.std.proofs.Common.{◌≡◌, ◌+◌, ◌^◌, ◌<◌, ◌≤◌, length}
use Rattle.msg_catalog.specs.Spots.{spots}
use Rattle.msg_catalog.specs.Cursors.{to_come}
use Rattle.msg_catalog.proofs.cursor.Cursor.past_joins.Given as goal

abbrev pub invariant-loop-after : goal.invariant-loop-after
invariant-loop-after l = record {
  same : spots l.line l.column l.rest ≡ to_come l.fn.self;
  shorter : length l.rest ≤ length l.fn.self.rest.now;
  lines : l.line + length l.rest < 2 ^ 32;
  columns : l.column + length l.rest < 2 ^ 32;
}

abbrev pub decreases-loop-after : goal.decreases-loop-after
decreases-loop-after l = length l.rest
