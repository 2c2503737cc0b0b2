use Rattle.std.proofs.Common.{◌≡◌, ◌<◌, None, Some, ap, sym, subst, ◌∙◌, arith}
use Rattle.generations.proofs.Says.{free_row_has}
use Rattle.catalog_handles.specs.Entry.{Open}
use Rattle.catalog_handles.specs.History.{free_row}
use Rattle.catalog_handles.specs.Answer.{opened_in}
use Rattle.catalog_handles.specs.Rows.{counts, after_open}
use Rattle.catalog_handles.specs.Kept.{Keeps}
use Rattle.catalog_handles.specs.Table.{CatalogsData}
use Rattle.catalog_handles.proofs.Says.{found_said}
use Rattle.catalog_handles.proofs.After.{keeps_open, keeps_full, keeps_after}
use Rattle.catalog_handles.proofs.Replies.{opened_found}
use Rattle.catalog_handles.proofs.catalogs.Catalogs.open.Goals as goal

pub open-requires-clause-row : goal.open-requires-clause-row
open-requires-clause-row g c =
    (free_row_has counts c.self.inside.setting.generations c.self.inside.rows c.args.who c.in-Some.row (sym c.in-Some.ensures)).0

pub open-requires-clause-makes : goal.open-requires-clause-makes
open-requires-clause-makes g c =
    let below = (free_row_has counts c.self.inside.setting.generations c.self.inside.rows c.args.who c.in-Some.row (sym c.in-Some.ensures)).1 in
    let most = c.self.invariant.generations in
    omega arith

pub returns-in-Some-clause-answers : goal.returns-in-Some-clause-answers
returns-in-Some-clause-answers g c = λ H s.
    let keeps = subst (λ (v : CatalogsData). Keeps v.setting H v.rows) (sym c.self.view_is) s in
    let caller = subst (λ (v : CatalogsData). c.args.who < v.setting.threads) (sym c.self.view_is) c.requires in
    let found = found_said c.self.inside.setting H c.self.inside.rows c.args.who (Some c.in-Some.row) keeps caller c.in-Some.ensures in
    let below = (free_row_has counts c.self.inside.setting.generations c.self.inside.rows c.args.who c.in-Some.row (sym c.in-Some.ensures)).0 in
    let width = keeps.width in
    let count = (keeps.each c.args.who c.in-Some.row caller (omega arith)).makes in
    opened_found H c.args.who c.in-Some.row c.open.result c.self.inside.rows (free_row c.self.inside.setting H c.args.who) found count
    c.open.ensures.generation
    ∙ ap (λ (v : CatalogsData). opened_in H c.args.who (free_row v.setting H c.args.who)) c.self.view_is

pub returns-in-Some-clause-stands : goal.returns-in-Some-clause-stands
returns-in-Some-clause-stands g c = λ H s.
    let number = g.B.Part.number c.args.book in
    let keeps = subst (λ (v : CatalogsData). Keeps v.setting H v.rows) (sym c.self.view_is) s in
    let caller = subst (λ (v : CatalogsData). c.args.who < v.setting.threads) (sym c.self.view_is) c.requires in
    let found = found_said c.self.inside.setting H c.self.inside.rows c.args.who (Some c.in-Some.row) keeps caller c.in-Some.ensures in
    let below = (free_row_has counts c.self.inside.setting.generations c.self.inside.rows c.args.who c.in-Some.row (sym c.in-Some.ensures)).0 in
    keeps_after c.self.inside.setting c.args.self.now.setting H c.args.who (Open number)
    (after_open c.self.inside.rows c.args.who c.in-Some.row number) c.open.new.rows
    (ap (λ (v : CatalogsData). v.setting) c.self.view_is) c.open.ensures.after
    (keeps_open c.self.inside.setting H c.args.who c.in-Some.row number c.self.inside.rows caller below found keeps)

pub returns-in-None-clause-answers : goal.returns-in-None-clause-answers
returns-in-None-clause-answers g c = λ H s.
    let keeps = subst (λ (v : CatalogsData). Keeps v.setting H v.rows) (sym c.self.view_is) s in
    let caller = subst (λ (v : CatalogsData). c.args.who < v.setting.threads) (sym c.self.view_is) c.requires in
    ap (opened_in H c.args.who) (sym (found_said c.self.inside.setting H c.self.inside.rows c.args.who None keeps caller c.in-None.ensures))
    ∙ ap (λ (v : CatalogsData). opened_in H c.args.who (free_row v.setting H c.args.who)) c.self.view_is

pub returns-in-None-clause-stands : goal.returns-in-None-clause-stands
returns-in-None-clause-stands g c = λ H s.
    let keeps = subst (λ (v : CatalogsData). Keeps v.setting H v.rows) (sym c.self.view_is) s in
    let caller = subst (λ (v : CatalogsData). c.args.who < v.setting.threads) (sym c.self.view_is) c.requires in
    let full = found_said c.self.inside.setting H c.self.inside.rows c.args.who None keeps caller c.in-None.ensures in
    keeps_full c.args.self.now.setting H c.args.who (g.B.Part.number c.args.book) c.args.self.now.rows c.requires
    (subst (λ (v : CatalogsData). free_row v.setting H c.args.who ≡ None) c.self.view_is full) s
