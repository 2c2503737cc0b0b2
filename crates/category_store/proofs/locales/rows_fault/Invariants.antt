use Rattle.std.proofs.Common.{◌≡◌, drop}
use Rattle.category_store.specs.Kept.{rows_fault}
use Rattle.category_store.proofs.locales.rows_fault.Given as goal

abbrev pub invariant-loop-row : goal.invariant-loop-row
invariant-loop-row l = rows_fault l.kept l.rows ≡ rows_fault l.kept (drop l.row-index l.rows)
