use Rattle.std.proofs.Common.{◌≡◌, replicate}
use Rattle.catalog_handles.specs.Rows.{no_row}
use Rattle.catalog_handles.proofs.rows.empty_rows.Given as goal

abbrev pub invariant-loop-i : goal.invariant-loop-i
invariant-loop-i g l = l.items.items ≡ replicate l._i no_row
