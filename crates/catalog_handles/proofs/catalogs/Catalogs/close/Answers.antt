use Rattle.std.proofs.Common.{◌<◌, ap, sym, subst, ◌∙◌}
use Rattle.catalog_handles.specs.Entry.{Close}
use Rattle.catalog_handles.specs.Seen.{reply_of}
use Rattle.catalog_handles.specs.Rows.{after_close}
use Rattle.catalog_handles.specs.Kept.{Keeps}
use Rattle.catalog_handles.specs.Table.{CatalogsData}
use Rattle.catalog_handles.proofs.After.{keeps_close, keeps_after}
use Rattle.catalog_handles.proofs.Replies.{close_found, close_refused}
use Rattle.catalog_handles.proofs.catalogs.Catalogs.close.Goals as goal
use Rattle.catalog_handles.proofs.catalogs.Catalogs.close.Goals.{then-close, else-close}

pub returns-clause-answers : goal.returns-clause-answers
returns-clause-answers g c = λ H who s.
    let keeps = subst (λ (v : CatalogsData). Keeps v.setting H v.rows) (sym c.self.view_is) s in
    elim c.if-close.branch [
      | then-close w ↦
          ap (reply_of g.B.Part.number) w.result-is
          ∙ close_found c.self.inside.setting H c.self.inside.rows c.args.h keeps w.if-close.ensures.was
      | else-close w ↦
          ap (reply_of g.B.Part.number) w.result-is
          ∙ close_refused c.self.inside.setting H c.self.inside.rows c.args.h c.refusal-refusal.result keeps w.if-close.ensures.was
          (c.refusal-refusal.ensures H s)
    ]

pub returns-clause-stands : goal.returns-clause-stands
returns-clause-stands g c = λ H who caller s.
    let keeps = subst (λ (v : CatalogsData). Keeps v.setting H v.rows) (sym c.self.view_is) s in
    let inside = subst (λ (v : CatalogsData). who < v.setting.threads) (sym c.self.view_is) caller in
    keeps_after c.self.inside.setting c.args.self.now.setting H who (Close c.args.h) (after_close c.self.inside.rows c.args.h) c.close.new.rows
    (ap (λ (v : CatalogsData). v.setting) c.self.view_is) c.close.ensures.after
    (keeps_close c.self.inside.setting H who c.args.h c.self.inside.rows inside keeps)
