use Rattle.std.proofs.Common.{ap, sym, ◌∙◌}
use Rattle.global_locale.specs.Versioned.{Versioned}
use Rattle.handle_table.specs.Table.{TableData}
use Rattle.handle_table.proofs.Unchanged.{newest_version}
use Rattle.handle_table.proofs.table.Table.global.Goals as goal

pub returns-clause-newest : goal.returns-clause-newest
returns-clause-newest g c = λ H s.
    ap (λ (v : Versioned). v.object) (c.global.ensures ∙ ap (λ (v : TableData). v.kept.global) c.self.view_is)
    ∙ s.keeps.global.object ∙ sym (newest_version c.args.self.now.setting H)
