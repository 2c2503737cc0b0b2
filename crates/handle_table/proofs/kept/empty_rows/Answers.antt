use Rattle.std.proofs.Common.{[], length, ap, subst, ◌∙◌}
use Rattle.std.proofs.lemmas.List.{length-replicate}
use Rattle.handle_table.specs.Entry.{Setting}
use Rattle.handle_table.specs.declared.row.Row.{Row}
use Rattle.handle_table.specs.Kept.{RowsStand, ObjectsStand}
use Rattle.handle_table.proofs.Fresh.{rows_fresh, objects_fresh}
use Rattle.handle_table.proofs.kept.empty_rows.Goals as goal

pub of-requires : goal.of-requires
of-requires g c = ap (length {A = Row}) c.in_ok-rows.ensures ∙ length-replicate _ _

pub of-requires-2 : goal.of-requires-2
of-requires-2 g c = c.in_ok-objects.ensures

pub returns-clause-rows : goal.returns-clause-rows
returns-clause-rows g c =
    subst (λ (s : Setting). RowsStand s [] c.of.result) c.setting.view_is (rows_fresh _ c.of.result _ c.setting.invariant.0 c.of.ensures c.in_ok-rows.ensures)

pub returns-clause-objects : goal.returns-clause-objects
returns-clause-objects g c =
    subst (λ (s : Setting). ObjectsStand s [] c.of-2.result) c.setting.view_is (objects_fresh _ c.of-2.result _ c.of-2.ensures c.in_ok-objects.ensures)
