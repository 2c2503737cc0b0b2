use Rattle.std.proofs.Common.{◌+◌, ◌*◌, length}
use Rattle.script_seats.proofs.each.+each.Given as goal

-- how many elements are left
abbrev pub decreases-each_from : goal.decreases-each_from
decreases-each_from g l = 4 * length l.s.now

abbrev pub decreases-one_beside : goal.decreases-one_beside
decreases-one_beside g l = 4 * length l.rest.now + 2

abbrev pub decreases-one_beside-others : goal.decreases-one_beside-others
decreases-one_beside-others g l = 4 * length l.rest.now + 1
