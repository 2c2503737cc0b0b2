use Rattle.std.proofs.Common.{ap, ◌∙◌}
use Rattle.std.specs.Prelude.{None}
use Rattle.generations.specs.Grid.{cell}
use Rattle.handle_table.specs.Kept.{KeptData}
use Rattle.handle_table.proofs.KeptSays.{posted_is}
use Rattle.handle_table.proofs.kept.Kept.posted.Goals as goal

pub returns : goal.returns
returns g c = λ s H k.
    c.at.ensures None ∙ ap (λ (v : KeptData). cell v.cells c.args.owner c.args.number None) c.self.view_is
    ∙ posted_is s H c.args.self.now c.args.owner c.args.number c.requires.owner c.requires.number k
