use Rattle.std.proofs.Common.{◌≡◌, length, map}
use Rattle.lc_base.specs.Tables.{first_named}
use Rattle.lc_base.proofs.words.first_named.Given as goal

abbrev pub invariant-loop-table : goal.invariant-loop-table
invariant-loop-table g l = first_named (map (λ e. (e.0.now, e.1)) l.table) l.name ≡ first_named (map (λ e. (e.0.now, e.1)) l.initial.table) l.name

abbrev pub decreases-loop-table : goal.decreases-loop-table
decreases-loop-table g l = length l.table
