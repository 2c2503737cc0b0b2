use Rattle.handle_table.proofs.AcceptsOf.{accepts_rebuild}
use Rattle.handle_table.proofs.accept.rebuild.Goals as goal

pub returns-clause-accepts : goal.returns-clause-accepts
returns-clause-accepts g c =
    accepts_rebuild c.args.setting.now c.args.who c.args.mask c.args.names.now c.args.h c.args.kept.now c.rebuild.new.self c.from_shelf-picks.result
    c.object.result c.compose-object.result c.requires.who c.rebuild.ensures.after c.compose-object.ensures.composed
    (λ H k. c.from_shelf-picks.ensures H k c.requires.names) (λ H k alive. c.object.ensures H k alive)
