use Rattle.std.proofs.Common.{◌≡◌, ◌+◌, ◌*◌, ◌≤◌, length}
use Rattle.strftime_fields.specs.Going.{Goes, place_of}
use Rattle.strftime_fields.proofs.expand.put_pieces.Given as goal

-- what was added so far goes on to what is left, and there is room for a piece behind every text that is no longer than the stop
abbrev pub invariant-reading : goal.invariant-reading
invariant-reading g l = record {
  goes : Goes g.O.Output.kind l.max l.t l.tm (g.O.Output.text l.fn.out l.fn.lent) l.fn.steps (place_of l.fn.left) (g.O.Output.text l.text l.lent) l.steps (record { format = l.left.format.now; rest = l.rest; levels = l.left.levels; whole = l.left.whole });
  most : l.limit ≤ l.max;
  stop : l.stop + 17 ≡ l.limit;
  short : length (g.O.Output.text l.text l.lent) ≤ l.max;
  room : l.limit ≤ g.O.Output.room l.text (length l.lent);
}

-- a format is shorter than 2 to the 64th
abbrev pub decreases-reading : goal.decreases-reading
decreases-reading g l = 18446744073709551616 * l.left.levels + length l.rest
