use Rattle.handle_table.proofs.AcceptsOf.{accepts_free}
use Rattle.handle_table.proofs.accept.free.Goals as goal

pub returns-clause-accepts : goal.returns-clause-accepts
returns-clause-accepts g c = accepts_free c.args.setting.now c.args.who c.args.named c.args.kept.now c.free.new.self c.requires.who c.free.ensures
