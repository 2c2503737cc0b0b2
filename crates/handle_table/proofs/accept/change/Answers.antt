use Rattle.handle_table.proofs.AcceptsOf.{accepts_no_global}
use Rattle.handle_table.proofs.accept.change.Goals as goal

pub returns-in-Global-clause-accepts : goal.returns-in-Global-clause-accepts
returns-in-Global-clause-accepts g c =
    rw c.in-Global.is (accepts_no_global c.args.setting.now c.args.who c.args.mask c.args.names.now c.args.kept.now c.args.kept.now _)
