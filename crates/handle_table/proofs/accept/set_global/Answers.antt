use Rattle.std.proofs.Common.{ap, ◌∙◌}
use Rattle.global_locale.specs.Versioned.{Versioned}
use Rattle.handle_table.proofs.AcceptsOf.{accepts_set}
use Rattle.handle_table.proofs.accept.set_global.Goals as goal

pub returns-clause-accepts : goal.returns-clause-accepts
returns-clause-accepts g c =
    accepts_set c.args.setting.now c.args.who c.args.mask c.args.names.now c.args.kept.now c.set_global-version.new.self c.from_shelf-picks.result
    c.share.result c.set_global-version.result c.requires.who c.set_global-version.ensures.after c.set_global-version.ensures.version
    (c.share.ensures ∙ c.peek.ensures ∙ ap (λ (v : Versioned). v.object) c.global.ensures)
    (λ H k. c.from_shelf-picks.ensures H k c.requires.names)
