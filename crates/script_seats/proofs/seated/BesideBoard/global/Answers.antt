use Rattle.std.proofs.Common.{refl, sym, subst}
use Rattle.turn_gate.specs.Callers.{Gate}
use Rattle.handle_table.specs.Entry.{Setting}
use Rattle.thread_current.specs.Thread.{IsThreadOf}
use Rattle.script_seats.specs.Seated.{gates}
use Rattle.script_seats.proofs.SeatLemmas.{finds_at, finds, can_same, asking_kept}
use Rattle.script_seats.proofs.seated.BesideBoard.global.Goals as goal

pub global_now-requires : goal.global_now-requires
global_now-requires g c = subst (λ (x : Gate Setting). IsThreadOf x c.args.side.now.mine) (sym c.args.self.now.table_is) c.requires.ready.calls.seated.thread

pub returns-clause-finds : goal.returns-clause-finds
returns-clause-finds g c =
    let e = c.global_now.ensures in
    finds g.G.OneTable.gate c.args.side.now _ c.global_now.result.0 c.global_now.result.1
    (finds_at g.G.OneTable.gate c.args.self.now.shared.now c.args.side.now _ c.global_now.result.0 c.global_now.result.1 c.args.self.now.table_is c.requires.ready.calls e.saw e.in_order refl refl e.version e.object)

pub returns-clause-ready : goal.returns-clause-ready
returns-clause-ready g c =
    let e = c.global_now.ensures in
    can_same (gates g.G.OneTable.gate g.G.OneTable.desk) c.args.side.now _ c.global_now.result.0 c.global_now.result.1
    (finds_at g.G.OneTable.gate c.args.self.now.shared.now c.args.side.now _ c.global_now.result.0 c.global_now.result.1 c.args.self.now.table_is c.requires.ready.calls e.saw e.in_order refl refl e.version e.object)
    refl refl

pub returns-clause-catalogs : goal.returns-clause-catalogs
returns-clause-catalogs g c = asking_kept g.G.OneTable.desk c.args.side.now _ refl refl
