use Rattle.std.proofs.Common.{[], subst}
use Rattle.handle_table.specs.Entry.{Setting}
use Rattle.handle_table.specs.Kept.{SelectionsStand, CellsStand}
use Rattle.handle_table.proofs.Fresh.{selections_fresh, cells_fresh}
use Rattle.handle_table.proofs.kept.nothing_selected.Goals as goal

pub returns-clause-selections : goal.returns-clause-selections
returns-clause-selections g c =
    subst (λ (s : Setting). SelectionsStand s [] c.in_ok-selections.selections.items) c.setting.view_is (selections_fresh _ _ c.in_ok-selections.ensures)

pub returns-clause-cells : goal.returns-clause-cells
returns-clause-cells g c =
    subst (λ (s : Setting). CellsStand s [] c.of.result) c.setting.view_is (cells_fresh _ c.of.result _ c.of.ensures c.in_ok-cells.ensures)
