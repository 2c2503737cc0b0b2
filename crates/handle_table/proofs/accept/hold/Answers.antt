use Rattle.handle_table.proofs.AcceptsOf.{accepts_hold}
use Rattle.handle_table.proofs.accept.hold.Goals as goal

pub returns-in-Of-clause-accepts : goal.returns-in-Of-clause-accepts
returns-in-Of-clause-accepts g c =
    rw c.in-Of.is (accepts_hold c.args.setting.now c.args.who c.in-Of.h c.args.kept.now c.hold.new.self c.object-object.result c.requires.who
    c.hold.ensures (λ H k alive. c.object-object.ensures H k alive))
