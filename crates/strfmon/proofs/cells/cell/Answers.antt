use Rattle.strfmon.specs.Cells.{cell}
use Rattle.strfmon.proofs.CellLemmas.{short_before, short_after}
use Rattle.strfmon.proofs.cells.cell.Goals as goal

pub returns-clause-before : goal.returns-clause-before
unfolding cell
returns-clause-before c = short_before (c.cell_at.result.0.now, c.cell_at.result.1.now) c.args.precedes c.args.position c.args.separation c.cell_at.ensures

pub returns-clause-after : goal.returns-clause-after
unfolding cell
returns-clause-after c = short_after (c.cell_at.result.0.now, c.cell_at.result.1.now) c.args.precedes c.args.position c.args.separation c.cell_at.ensures
