use Rattle.std.proofs.Common.{◌+◌, ◌*◌, ◌≤◌, length}
use Rattle.strftime_fields.specs.Going.{Goes, place_of}
use Rattle.strftime_fields.proofs.expand.+expand.Given as goal

-- what was added so far goes on to what is left
abbrev pub invariant-put_left-reading : goal.invariant-put_left-reading
invariant-put_left-reading g l = record {
  goes : Goes g.O.Output.kind l.max l.t l.tm (g.O.Output.text l.fn.out l.fn.lent) l.fn.steps (place_of l.fn.left) (g.O.Output.text l.out l.lent) l.steps (place_of l.left);
  short : length (g.O.Output.text l.out l.lent) ≤ l.max;
}

-- a format is shorter than 2 to the 64th
abbrev pub decreases-put_left-reading : goal.decreases-put_left-reading
decreases-put_left-reading g l = 18446744073709551616 * l.left.levels + length l.left.rest.now

abbrev pub decreases-put_left : goal.decreases-put_left
decreases-put_left g l = 4 * l.left.now.levels

abbrev pub decreases-put_format : goal.decreases-put_format
decreases-put_format g l = 4 * l.levels + 1

abbrev pub decreases-put_inner : goal.decreases-put_inner
decreases-put_inner g l = 4 * l.levels + 2

abbrev pub decreases-put_other : goal.decreases-put_other
decreases-put_other g l = 4 * l.levels + 3
