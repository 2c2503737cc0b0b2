use Rattle.handle_table.proofs.AcceptsOf.{accepts_install}
use Rattle.handle_table.proofs.accept.install.Goals as goal

pub returns-clause-accepts : goal.returns-clause-accepts
returns-clause-accepts g c =
    accepts_install c.args.setting.now c.args.who c.args.name c.args.offer c.args.kept.now c.install.new.self c.install.result c.requires.who
    c.requires.name c.install.ensures.after c.install.ensures.installs
