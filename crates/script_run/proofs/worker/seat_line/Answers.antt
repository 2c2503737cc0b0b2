use Rattle.std.proofs.Common.{◌≡◌, sym, ap, ◌∙◌, subst}
use Rattle.turn_gate.specs.Callers.{Gate}
use Rattle.handle_table.specs.Entry.{Setting}
use Rattle.catalog_handles.specs.declared.setting.CatalogSetting.{CatalogSetting}
use Rattle.script_wishes.specs.Seen.{turn_seen}
use Rattle.script_seats.specs.Seated.{Gates, gates}
use Rattle.script_run.specs.Beside.{library_and_books, CanAdd, AddsLine}
use Rattle.script_run.proofs.worker.seat_line.Goals as goal

pub returns : goal.returns
returns g c =
    let e = c.in_ok-line.ensures in
    let old = c.args.thread.now in
    let with_books = library_and_books c.args.common.now.library.now c.args.common.now.books.now in
    let here : Gates = gates c.args.common.now.shared.now c.args.common.now.catalogs.now in
    let there : Gates = gates g.G.OneTable.gate g.G.OneTable.desk in
    let same : here ≡ there =
    ap (λ (x : Gate Setting). gates x c.args.common.now.catalogs.now) c.requires.table ∙ ap (λ (x : Gate CatalogSetting). gates g.G.OneTable.gate x) c.requires.catalogs in
    let can : CanAdd there with_books old (turn_seen c.args.turn) = subst (λ (x : Gates). CanAdd x with_books old (turn_seen c.args.turn)) same c.requires.can in
    subst (λ (x : Gates). AddsLine x with_books (turn_seen c.args.turn) old c.turn_line.new.thread c.in_ok-line.line) (sym same)
    (record {
      leaves = λ bounds bind. e.leaves old.side.mine.seen old.side.reader.seen bounds can.calls.calls.seated can.calls.asks.seated bind;
      variables = e.variables;
      number = e.number;
      lines = e.lines;
      calls = e.ready;
    })
