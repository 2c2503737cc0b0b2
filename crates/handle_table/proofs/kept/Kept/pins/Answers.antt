use Rattle.std.proofs.Common.{ap, ◌∙◌}
use Rattle.handle_table.specs.Rows.{says_pins}
use Rattle.handle_table.specs.Kept.{KeptData}
use Rattle.handle_table.proofs.KeptSays.{pins_is}
use Rattle.handle_table.proofs.kept.Kept.pins.Goals as goal

pub returns : goal.returns
returns g c = λ s H k.
    c.pins.ensures ∙ ap (λ (v : KeptData). says_pins v.rows c.args.h) c.self.view_is ∙ pins_is s H c.args.self.now c.args.h k
