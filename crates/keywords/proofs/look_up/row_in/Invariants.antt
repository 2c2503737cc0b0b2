use Rattle.std.proofs.Common.{◌≡◌, length, map}
use Rattle.keywords.specs.LookUp.{row_in}
use Rattle.keywords.specs.Rows.{row_of}
use Rattle.keywords.proofs.look_up.row_in.Given as goal

-- no row so far has the name
abbrev pub invariant-loop-rows : goal.invariant-loop-rows
invariant-loop-rows l = row_in (map row_of l.rows) l.name ≡ row_in (map row_of l.initial.rows) l.name

abbrev pub decreases-loop-rows : goal.decreases-loop-rows
decreases-loop-rows l = length l.rows
