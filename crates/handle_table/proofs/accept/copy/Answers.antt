use Rattle.handle_table.proofs.AcceptsOf.{accepts_dup}
use Rattle.handle_table.proofs.accept.copy.Goals as goal

pub returns-clause-accepts : goal.returns-clause-accepts
returns-clause-accepts g c =
    accepts_dup c.args.setting.now c.args.who c.args.from c.args.kept.now c.make.new.kept c.copied-object.result _ c.requires.who
    c.make.ensures.after c.make.ensures.replies (λ H k none. c.copied-object.ensures H c.args.who k none)
