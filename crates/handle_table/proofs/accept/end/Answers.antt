use Rattle.handle_table.proofs.AcceptsOf.{accepts_end}
use Rattle.handle_table.proofs.accept.end.Goals as goal

pub returns-clause-accepts : goal.returns-clause-accepts
returns-clause-accepts g c = accepts_end c.args.setting.now c.args.who c.args.kept.now c.end.new.self c.requires.who c.end.ensures
