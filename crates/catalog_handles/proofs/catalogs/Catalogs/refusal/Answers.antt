use Rattle.std.proofs.Common.{true, false, ap, sym, subst, ◌∙◌}
use Rattle.generations.specs.Rows.{says_made}
use Rattle.catalog_handles.specs.Rows.{counts}
use Rattle.catalog_handles.specs.Kept.{Keeps}
use Rattle.catalog_handles.specs.Table.{CatalogsData}
use Rattle.catalog_handles.proofs.Replies.{reason_said}
use Rattle.catalog_handles.proofs.catalogs.Catalogs.refusal.Goals as goal

pub returns-then-is_made : goal.returns-then-is_made
returns-then-is_made g c = λ H s.
    let keeps = subst (λ (v : CatalogsData). Keeps v.setting H v.rows) (sym c.self.view_is) s in
    reason_said c.self.inside.setting H c.self.inside.rows c.args.h true keeps
    (c.if-is_made.ensures ∙ ap (says_made counts c.self.inside.rows) c.numbers.ensures)

pub returns-else-is_made : goal.returns-else-is_made
returns-else-is_made g c = λ H s.
    let keeps = subst (λ (v : CatalogsData). Keeps v.setting H v.rows) (sym c.self.view_is) s in
    reason_said c.self.inside.setting H c.self.inside.rows c.args.h false keeps
    (c.if-is_made.ensures ∙ ap (says_made counts c.self.inside.rows) c.numbers.ensures)
