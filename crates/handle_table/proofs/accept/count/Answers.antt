use Rattle.handle_table.proofs.AcceptsOf.{accepts_pins}
use Rattle.handle_table.proofs.accept.count.Goals as goal

pub returns-in-Of-clause-accepts : goal.returns-in-Of-clause-accepts
returns-in-Of-clause-accepts g c =
    rw c.in-Of.is (accepts_pins c.args.setting.now c.args.who c.in-Of.h c.args.kept.now c.pins.result c.requires.who
    (λ H k. c.pins.ensures c.args.setting.now H k))
