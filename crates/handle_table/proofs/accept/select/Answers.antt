use Rattle.handle_table.proofs.AcceptsOf.{accepts_use}
use Rattle.handle_table.proofs.accept.select.Goals as goal

pub returns-clause-accepts : goal.returns-clause-accepts
returns-clause-accepts g c =
    accepts_use c.args.setting.now c.args.who c.args.to c.args.kept.now c.select-former.new.self c.select-former.result c.taken_up-now.result
    c.requires.who c.select-former.ensures.after c.select-former.ensures.former (λ H k none. c.taken_up-now.ensures H c.args.who k none)
