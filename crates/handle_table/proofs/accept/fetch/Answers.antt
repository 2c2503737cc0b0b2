use Rattle.std.proofs.Common.{sym, ◌∙◌}
use Rattle.handle_table.proofs.AcceptsOf.{accepts_fetch}
use Rattle.handle_table.proofs.accept.fetch.Goals as goal

pub returns-in-Some-clause-accepts : goal.returns-in-Some-clause-accepts
returns-in-Some-clause-accepts g c =
    accepts_fetch c.args.setting.now c.args.who c.args.owner c.args.number c.in-Some.h c.args.kept.now c.requires.who
    (λ H k. sym c.in-Some.is ∙ c.posted.ensures c.args.setting.now H k)
