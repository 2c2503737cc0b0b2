use Rattle.std.proofs.Common.{◌<◌, ◌≤◌, length, refl, sym, subst, ◌∙◌, arith}
use Rattle.turn_gate.specs.Callers.{Gate}
use Rattle.handle_table.specs.Entry.{Setting}
use Rattle.handle_table.specs.History.{sets, global_at}
use Rattle.thread_current.specs.Thread.{IsThreadOf}
use Rattle.catalog_handles.specs.declared.setting.CatalogSetting.{CatalogSetting}
use Rattle.catalog_handles.specs.Seen.{op_of, reply_of}
use Rattle.catalog_handles.specs.Reader.{IsReaderOf, IsInOrder, Answered}
use Rattle.script_lines.specs.Catalogs.{number_of}
use Rattle.script_seats.specs.Seated.{gates}
use Rattle.script_seats.proofs.SeatLemmas.{Found}
use Rattle.script_seats.proofs.AskedCalls.{asked_at_all, asks_left, asks_less, as_long, looked_twice}
use Rattle.script_seats.proofs.seated.BesideBoard.catalog.Given as given
use Rattle.script_seats.proofs.seated.BesideBoard.catalog.Goals as goal

pub reach-seen-requires : goal.reach-seen-requires
reach-seen-requires g c = subst (λ (x : Gate Setting). IsThreadOf x c.args.side.now.mine) (sym c.args.self.now.table_is) c.requires.ready.calls.seated.thread

pub turn-place-requires-clause-thread : goal.turn-place-requires-clause-thread
turn-place-requires-clause-thread g c = subst (λ (x : Gate CatalogSetting). IsReaderOf x c.args.side.now.reader) (sym c.args.self.now.catalogs_are) c.requires.ready.asks.seated.thread

pub turn-place-requires-clause-quota : goal.turn-place-requires-clause-quota
turn-place-requires-clause-quota g c =
    subst (λ (x : Gate CatalogSetting). length c.args.side.now.reader.calls < x.terms.quota) (sym c.args.self.now.catalogs_are)
    (let quota = c.requires.ready.asks.quota in omega (arith, quota))

pub reach-requires : goal.reach-requires
reach-requires g c =
    let saw = c.reach-seen.ensures.saw.same in
    let of = c.requires.ready.calls.seated.thread in
    subst (λ (x : Gate Setting). IsThreadOf x c.reach-seen.new.mine) (sym c.args.self.now.table_is) (saw.table ∙ of.0, saw.terms ∙ of.1)

found : (g : given.Over) (c : goal.After-reach g) → Found g.G.OneTable.gate c.args.side.now (record c.args.side.now { mine = c.reach.new.mine; reader = c.turn-place.new.reader })
    (sets c.reach.new.mine.seen) (global_at c.args.self.now.shared.now.terms.setting c.reach.new.mine.seen (sets c.reach.new.mine.seen))
found g c =
    looked_twice (gates g.G.OneTable.gate g.G.OneTable.desk) c.args.self.now.shared.now c.args.side.now (record c.args.side.now { mine = c.reach.new.mine; reader = c.turn-place.new.reader }) c.reach-seen.new.mine
    c.args.self.now.table_is c.requires.ready c.reach-seen.ensures.saw c.reach.ensures.saw c.reach.ensures.in_order refl refl

answered : (g : given.Over) (c : goal.After-reach g) → Answered g.G.OneTable.desk c.args.side.now.reader c.turn-place.new.reader (op_of number_of c.args.op) c.reach-seen.result c.turn-place.result.0 c.turn-place.result.1 (reply_of number_of c.turn-place.result.2)
answered g c =
    asked_at_all g.G.OneTable.desk c.args.self.now.catalogs.now c.args.side.now (record c.args.side.now { mine = c.reach.new.mine; reader = c.turn-place.new.reader })
    (op_of number_of c.args.op) c.reach-seen.result c.turn-place.result.0 c.turn-place.result.1 (reply_of number_of c.turn-place.result.2) c.args.self.now.catalogs_are c.turn-place.ensures.answered

pub returns-clause-answers : goal.returns-clause-answers
returns-clause-answers g c = λ H M here there.
    let before : length c.args.side.now.mine.seen ≤ length c.reach-seen.new.mine.seen = as_long c.reach-seen.new.mine.seen c.args.side.now.mine.seen c.reach-seen.ensures.saw.later in
    let counted = c.reach-seen.ensures.count in
    let reached = c.reach.ensures.count in
    let least = c.reach.ensures.least in
    asks_left (gates g.G.OneTable.gate g.G.OneTable.desk) c.args.side.now (record c.args.side.now { mine = c.reach.new.mine; reader = c.turn-place.new.reader })
    (op_of number_of c.args.op) c.reach-seen.result c.turn-place.result.0 c.turn-place.result.1 (reply_of number_of c.turn-place.result.2) _ _ c.requires.ready (found g c) (answered g c)
    (subst (λ (x : Gate CatalogSetting). IsInOrder x.terms c.turn-place.new.reader) c.args.self.now.catalogs_are c.turn-place.ensures.in_order) refl
    (omega (arith, before, counted)) (omega (arith, reached, least)) H M here there

pub returns-clause-ready : goal.returns-clause-ready
returns-clause-ready g c =
    asks_less (gates g.G.OneTable.gate g.G.OneTable.desk) c.args.side.now (record c.args.side.now { mine = c.reach.new.mine; reader = c.turn-place.new.reader })
    (op_of number_of c.args.op) c.reach-seen.result c.turn-place.result.0 c.turn-place.result.1 (reply_of number_of c.turn-place.result.2) _ _ (found g c) (answered g c)
    (subst (λ (x : Gate CatalogSetting). IsInOrder x.terms c.turn-place.new.reader) c.args.self.now.catalogs_are c.turn-place.ensures.in_order) refl
