use Rattle.std.proofs.Common.{arith}
use Rattle.generations.specs.Rows.{row_at, is_free_row}
use Rattle.generations.proofs.Least.{least_below_found}
use Rattle.generations.proofs.grid.Grid.free_row.Goals as goal

pub returns-then-is_free : goal.returns-then-is_free
returns-then-is_free g c =
    let rows = c.args.self.now in
    least_below_found rows.width c.loop-row.row (λ r. is_free_row g.R.HandleRow.counts c.args.generations (row_at g.R.HandleRow.counts rows c.args.who r))
    (omega arith) c.loop-row.invariant c.if-is_free.ensures
