use Rattle.std.proofs.Common.{ap, ◌∙◌}
use Rattle.mask_compose.specs.Parts.{composed}
use Rattle.mask_compose.specs.Offer.{Offered}
use Rattle.handle_table.proofs.AcceptsOf.{accepts_new}
use Rattle.handle_table.proofs.accept.make_new.Goals as goal

pub returns-clause-accepts : goal.returns-clause-accepts
returns-clause-accepts g c =
    accepts_new c.args.setting.now c.args.who c.args.mask c.args.names.now c.args.kept.now c.make.new.kept c.from_shelf-picks.result
    c.compose-object.result _ c.requires.who c.make.ensures.after c.make.ensures.replies
    (c.compose-object.ensures.composed
    ∙ ap (λ (o : Offered). composed c.args.mask c.from_shelf-picks.result o.object) (c.behind-setting.view_is ∙ c.posix.ensures))
    (λ H k. c.from_shelf-picks.ensures H k c.requires.names)
