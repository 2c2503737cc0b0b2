use Rattle.std.proofs.Common.{ap, ◌∙◌}
use Rattle.handle_table.specs.Rows.{says_live}
use Rattle.handle_table.specs.Kept.{KeptData}
use Rattle.handle_table.proofs.KeptSays.{live_is}
use Rattle.handle_table.proofs.kept.Kept.is_live.Goals as goal

pub returns : goal.returns
returns g c = λ s H k.
    c.is_live.ensures ∙ ap (λ (v : KeptData). says_live v.rows c.args.h) c.self.view_is ∙ live_is s H c.args.self.now c.args.h k
