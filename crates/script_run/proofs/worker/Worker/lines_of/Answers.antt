use Rattle.std.proofs.Common.{◌+◌, ◌^◌, ◌<◌, map, sym, ◌∙◌, arith, ne_eqb}
use Rattle.script_wishes.specs.Seen.{turn_seen}
use Rattle.script_run.proofs.WorkLemmas.{going_none, turn_at, turn_below, going_can, going_past, going_on}
use Rattle.script_seats.specs.Seated.{gates}
use Rattle.script_run.specs.Beside.{library_and_books}
use Rattle.script_run.proofs.worker.Worker.lines_of.Goals as goal
use Rattle.script_run.proofs.worker.Worker.lines_of.Goals.{then-turn-number+in_ok-add, else-turn-number}

pub loop-turn-init : goal.loop-turn-init
loop-turn-init g c =
    going_none (gates c.args.common.now.shared.now c.args.common.now.catalogs.now) (library_and_books c.args.common.now.library.now c.args.common.now.books.now) (map turn_seen c.args.turns.now)
    c.args.self.now.thread c.args.self.now.lines.items c.requires.can

pub overflow_add-self : goal.overflow_add-self
overflow_add-self g c =
    let can = going_can (gates c.args.common.now.shared.now c.args.common.now.catalogs.now) (library_and_books c.args.common.now.library.now c.args.common.now.books.now) (map turn_seen c.args.turns.now) c.args.self.now.thread c.loop-turn.self.thread c.args.self.now.lines.items c.loop-turn.self.lines.items
    c.loop-turn.turn-index (turn_seen c.turn-item.result) (turn_below c.args.turns.now c.loop-turn.turn-index c.loop-turn-test.true)
    (turn_at c.args.turns.now c.loop-turn.turn-index c.turn-item.result c.loop-turn-test.true c.turn-item.is) (c.if-turn-number.true ∙ c.number-number.ensures) c.loop-turn.invariant in
    let few : c.loop-turn.self.thread.lines + 1 < 2 ^ 32 = can.few in
    omega arith

pub add-requires : goal.add-requires
add-requires g c =
    going_can (gates c.args.common.now.shared.now c.args.common.now.catalogs.now) (library_and_books c.args.common.now.library.now c.args.common.now.books.now) (map turn_seen c.args.turns.now) c.args.self.now.thread c.loop-turn.self.thread c.args.self.now.lines.items c.loop-turn.self.lines.items
    c.loop-turn.turn-index (turn_seen c.turn-item.result) (turn_below c.args.turns.now c.loop-turn.turn-index c.loop-turn-test.true)
    (turn_at c.args.turns.now c.loop-turn.turn-index c.turn-item.result c.loop-turn-test.true c.turn-item.is) (c.if-turn-number.true ∙ c.number-number.ensures) c.loop-turn.invariant

pub loop-turn-preserved : goal.loop-turn-preserved
loop-turn-preserved g c =
    let below = turn_below c.args.turns.now c.loop-turn.turn-index c.loop-turn-test.true in
    let is = turn_at c.args.turns.now c.loop-turn.turn-index c.turn-item.result c.loop-turn-test.true c.turn-item.is in
    elim c.if-turn-number.branch [
      | then-turn-number+in_ok-add w ↦
          rw w.self-is (going_on (gates c.args.common.now.shared.now c.args.common.now.catalogs.now) (library_and_books c.args.common.now.library.now c.args.common.now.books.now) (map turn_seen c.args.turns.now) c.args.self.now.thread c.loop-turn.self.thread w.add.new.self.thread
          c.args.self.now.lines.items c.loop-turn.self.lines.items w.add.new.self.lines.items c.loop-turn.turn-index (turn_seen c.turn-item.result) below is
          (w.if-turn-number.true ∙ c.number-number.ensures) c.loop-turn.invariant w.in_ok-add.ensures)
      | else-turn-number w ↦
          rw w.self-is (going_past (gates c.args.common.now.shared.now c.args.common.now.catalogs.now) (library_and_books c.args.common.now.library.now c.args.common.now.books.now) (map turn_seen c.args.turns.now) c.args.self.now.thread c.loop-turn.self.thread
          c.args.self.now.lines.items c.loop-turn.self.lines.items c.loop-turn.turn-index (turn_seen c.turn-item.result) below is
          (ne_eqb c.turn-item.result.thread c.args.self.now.thread.side.number (λ e. w.if-turn-number.false (e ∙ sym c.number-number.ensures))) c.loop-turn.invariant)
    ]
