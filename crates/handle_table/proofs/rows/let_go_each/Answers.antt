use Rattle.handle_table.specs.Row.{let_go}
use Rattle.handle_table.proofs.Places.{replaced_more}
use Rattle.handle_table.proofs.rows.let_go_each.Goals as goal

pub loop-row-preserved : goal.loop-row-preserved
loop-row-preserved c =
    replaced_more (let_go c.args.who) c.args.rows.now c.loop-row.rows c.loop-row.row-index _ c.let_go.result c.loop-row-test.true
    c.loop-row.auto.rows c.loop-row.invariant c.let_go.ensures
