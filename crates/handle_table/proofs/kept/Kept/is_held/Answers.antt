use Rattle.std.proofs.Common.{ap, ◌∙◌}
use Rattle.handle_table.specs.Rows.{says_held}
use Rattle.handle_table.specs.Kept.{KeptData}
use Rattle.handle_table.proofs.KeptSays.{held_is}
use Rattle.handle_table.proofs.kept.Kept.is_held.Goals as goal

pub returns : goal.returns
returns g c = λ s H k.
    c.is_held.ensures ∙ ap (λ (v : KeptData). says_held v.rows c.args.who c.args.h) c.self.view_is ∙ held_is s H c.args.self.now c.args.who c.args.h c.requires.who k
