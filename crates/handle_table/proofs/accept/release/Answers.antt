use Rattle.handle_table.proofs.AcceptsOf.{accepts_release}
use Rattle.handle_table.proofs.accept.release.Goals as goal

pub returns-clause-accepts : goal.returns-clause-accepts
returns-clause-accepts g c = accepts_release c.args.setting.now c.args.who c.args.named c.args.kept.now c.release.new.self c.requires.who c.release.ensures
