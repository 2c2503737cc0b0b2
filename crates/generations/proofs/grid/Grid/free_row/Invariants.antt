use Rattle.std.proofs.Common.{◌≡◌, None}
use Rattle.generations.specs.Least.{least_below}
use Rattle.generations.specs.Rows.{row_at, is_free_row}
use Rattle.generations.proofs.grid.Grid.free_row.Given as goal

abbrev pub invariant-loop-row : goal.invariant-loop-row
invariant-loop-row g l = least_below l.row (λ r. is_free_row g.R.HandleRow.counts l.generations (row_at g.R.HandleRow.counts l.self l.who r)) ≡ None
