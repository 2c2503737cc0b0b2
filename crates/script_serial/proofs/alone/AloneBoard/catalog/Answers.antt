use Rattle.std.proofs.Common.{◌≡◌, ◌+◌, refl, subst}
use Rattle.handle_table.specs.Entry.{History}
use Rattle.catalog_handles.specs.Entry.{History as CatalogHistory}
use Rattle.catalog_handles.specs.Seen.{op_of, reply_of}
use Rattle.script_lines.specs.Board.{Asks}
use Rattle.script_lines.specs.Catalogs.{number_of}
use Rattle.script_serial.specs.Alone.{AloneSideData, AloneData}
use Rattle.script_serial.specs.Session.{IsAt, CatalogsAreAt}
use Rattle.script_serial.proofs.AloneLemmas.{asks_alone}
use Rattle.script_serial.proofs.alone.AloneBoard.catalog.Goals as goal

pub returns-clause-answers : goal.returns-clause-answers
returns-clause-answers g = λ H M.
    let new : AloneData = record { table = g.self.inside.table; catalogs = g.step.new.self; asked = g.self.inside.asked + 1 } in
    let Leaves : AloneData → AloneSideData → Type 0 = λ a k.
    IsAt a.table k H → CatalogsAreAt a M
    → Asks a.table.setting (λ (G K : History). G ≡ K) (λ (N K : CatalogHistory). N ≡ K) (IsAt new.table k) (CatalogsAreAt new) k.number H M (op_of number_of g.args.op) g.from-place.result (reply_of number_of g.step.result)
    in
    let old : AloneData = record { table = g.self.inside.table; catalogs = g.self.inside.catalogs; asked = g.self.inside.asked } in
    let k : AloneSideData = record { number = g.side.inside.number; own = g.side.inside.own; selected = g.side.inside.selected; holds = g.side.inside.holds.items } in
    subst (Leaves g.args.self.now) g.side.view_is (subst (λ (a : AloneData). Leaves a k) g.self.view_is
    (asks_alone old new k H M (op_of number_of g.args.op) g.from-place.result (reply_of number_of g.step.result) g.self.invariant refl refl g.from-place.ensures g.step.ensures.answers g.step.ensures.stands))
