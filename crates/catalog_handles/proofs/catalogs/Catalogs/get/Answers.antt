use Rattle.std.proofs.Common.{sym, subst}
use Rattle.catalog_handles.specs.Entry.{Book}
use Rattle.catalog_handles.specs.History.{book}
use Rattle.catalog_handles.specs.Kept.{Keeps}
use Rattle.catalog_handles.specs.Table.{CatalogsData}
use Rattle.catalog_handles.proofs.Replies.{get_found, refused_found}
use Rattle.catalog_handles.proofs.catalogs.Catalogs.get.Goals as goal

pub returns-in-Some : goal.returns-in-Some
returns-in-Some g c = λ H who s.
    let keeps = subst (λ (v : CatalogsData). Keeps v.setting H v.rows) (sym c.self.view_is) s in
    get_found c.self.inside.setting H c.self.inside.rows c.args.h (g.B.Part.number c.in-Some.book) keeps c.in-Some.ensures

pub returns-in-None : goal.returns-in-None
returns-in-None g c = λ H who s.
    let keeps = subst (λ (v : CatalogsData). Keeps v.setting H v.rows) (sym c.self.view_is) s in
    refused_found c.self.inside.setting H c.self.inside.rows c.args.h c.refusal.result (Book (book H c.args.h)) keeps
    c.in-None.ensures (c.refusal.ensures H s)
