use Rattle.std.proofs.Common.{ap, ◌∙◌}
use Rattle.generations.specs.Rows as rows_of
use Rattle.handle_table.specs.Rows.{counts, says_made}
use Rattle.handle_table.specs.Kept.{KeptData}
use Rattle.handle_table.proofs.KeptSays.{made_is}
use Rattle.handle_table.proofs.kept.Kept.is_made.Goals as goal

pub returns : goal.returns
returns g c = λ s H k.
    c.is_made.ensures ∙ ap (rows_of.says_made counts c.self.inside.rows) c.numbers.ensures
    ∙ ap (λ (v : KeptData). says_made v.rows c.args.h) c.self.view_is ∙ made_is s H c.args.self.now c.args.h k
