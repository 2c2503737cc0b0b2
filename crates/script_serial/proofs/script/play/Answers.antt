use Rattle.std.proofs.Common.{◌<◌, length, get_or, arith, ◌∙◌}
use Rattle.std.proofs.lemmas.List.{length-set}
use Rattle.script_wishes.specs.Seen.{task_seen, turn_seen}
use Rattle.script_wishes.proofs.WishLemmas.{task_fits}
use Rattle.script_serial.proofs.RunLemmas.{next, turned, two_steps, fits_at, taking, more_lines, numbered_on, goes_on, after_turn}
use Rattle.script_serial.proofs.script.play.Goals as goal

pub bounds-threads-turn : goal.bounds-threads-turn
bounds-threads-turn c =
    let thread : c.turn-item.result.thread < length c.args.threads.now = (fits_at (length c.args.threads.now) c.args.turns.now c.loop-turn.turn-index c.turn-item.result c.requires.fit c.loop-turn-test.true c.turn-item.is).thread in
    omega (arith, thread, c.loop-turn.invariant.threads)

pub turn_line-requires-clause-ready : goal.turn_line-requires-clause-ready
turn_line-requires-clause-ready c = (taking c.args.library.now c.args.alone.now c.loop-turn.alone c.args.threads.now c.loop-turn.threads c.args.turns.now (length c.args.lines.now.items) (length c.loop-turn.lines.items) c.loop-turn.turn-index c.turn-item.result c.index-threads-turn.result c.requires.can c.loop-turn.invariant.on c.loop-turn.invariant.threads c.loop-turn.invariant.numbered c.loop-turn.invariant.lines c.requires.few c.requires.fit c.loop-turn-test.true c.turn-item.is).ready

pub turn_line-requires-clause-thread : goal.turn_line-requires-clause-thread
turn_line-requires-clause-thread c = (taking c.args.library.now c.args.alone.now c.loop-turn.alone c.args.threads.now c.loop-turn.threads c.args.turns.now (length c.args.lines.now.items) (length c.loop-turn.lines.items) c.loop-turn.turn-index c.turn-item.result c.index-threads-turn.result c.requires.can c.loop-turn.invariant.on c.loop-turn.invariant.threads c.loop-turn.invariant.numbered c.loop-turn.invariant.lines c.requires.few c.requires.fit c.loop-turn-test.true c.turn-item.is).own

pub turn_line-requires-clause-fits : goal.turn_line-requires-clause-fits
turn_line-requires-clause-fits c =
    task_fits c.loop-turn.alone.table.setting c.args.library.now (task_seen c.turn-item.result.task) c.requires.numbered c.requires.installable (taking c.args.library.now c.args.alone.now c.loop-turn.alone c.args.threads.now c.loop-turn.threads c.args.turns.now (length c.args.lines.now.items) (length c.loop-turn.lines.items) c.loop-turn.turn-index c.turn-item.result c.index-threads-turn.result c.requires.can c.loop-turn.invariant.on c.loop-turn.invariant.threads c.loop-turn.invariant.numbered c.loop-turn.invariant.lines c.requires.few c.requires.fit c.loop-turn-test.true c.turn-item.is).shelf (taking c.args.library.now c.args.alone.now c.loop-turn.alone c.args.threads.now c.loop-turn.threads c.args.turns.now (length c.args.lines.now.items) (length c.loop-turn.lines.items) c.loop-turn.turn-index c.turn-item.result c.index-threads-turn.result c.requires.can c.loop-turn.invariant.on c.loop-turn.invariant.threads c.loop-turn.invariant.numbered c.loop-turn.invariant.lines c.requires.few c.requires.fit c.loop-turn-test.true c.turn-item.is).fits

pub turn_line-requires-clause-few : goal.turn_line-requires-clause-few
turn_line-requires-clause-few c = (taking c.args.library.now c.args.alone.now c.loop-turn.alone c.args.threads.now c.loop-turn.threads c.args.turns.now (length c.args.lines.now.items) (length c.loop-turn.lines.items) c.loop-turn.turn-index c.turn-item.result c.index-threads-turn.result c.requires.can c.loop-turn.invariant.on c.loop-turn.invariant.threads c.loop-turn.invariant.numbered c.loop-turn.invariant.lines c.requires.few c.requires.fit c.loop-turn-test.true c.turn-item.is).few

pub loop-turn-preserved : goal.loop-turn-preserved
loop-turn-preserved c =
    let item = c.turn-item.result in
    let thread : c.turn-item.result.thread < length c.args.threads.now = (fits_at (length c.args.threads.now) c.args.turns.now c.loop-turn.turn-index c.turn-item.result c.requires.fit c.loop-turn-test.true c.turn-item.is).thread in
    let within : c.turn-item.result.thread < length c.loop-turn.threads = omega (arith, thread, c.loop-turn.invariant.threads) in
    record {
      threads = length-set c.loop-turn.threads item.thread c.turn_line.new.thread ∙ c.loop-turn.invariant.threads;
      numbered = numbered_on c.loop-turn.threads c.index-threads-turn.result c.turn_line.new.thread item.thread c.loop-turn.lines.items c.push.new.self.items c.in_ok-line.line c.in_ok-push.ensures.items within c.loop-turn.invariant.numbered c.in_ok-line.ensures.number c.in_ok-line.ensures.lines;
      lines = more_lines c.loop-turn.lines.items c.push.new.self.items c.in_ok-line.line (length c.args.lines.now.items) c.loop-turn.turn-index c.in_ok-push.ensures.items c.loop-turn.invariant.lines;
      on = goes_on c.args.alone.now c.loop-turn.alone c.turn_line.new.board c.loop-turn.turn-index c.loop-turn.invariant.on (two_steps c.loop-turn.alone c.turn_line.new.board (get_or c.loop-turn.threads item.thread c.index-threads-turn.result).side c.turn_line.new.thread.side c.in_ok-line.ensures.setting (taking c.args.library.now c.args.alone.now c.loop-turn.alone c.args.threads.now c.loop-turn.threads c.args.turns.now (length c.args.lines.now.items) (length c.loop-turn.lines.items) c.loop-turn.turn-index c.turn-item.result c.index-threads-turn.result c.requires.can c.loop-turn.invariant.on c.loop-turn.invariant.threads c.loop-turn.invariant.numbered c.loop-turn.invariant.lines c.requires.few c.requires.fit c.loop-turn-test.true c.turn-item.is).ready c.in_ok-line.ensures.ready);
      plays = λ start at same.
          let p = c.loop-turn.invariant.plays start at same in (
            next c.args.alone.now.table.setting c.args.library.now c.args.books.now p.0 (turn_seen item),
            after_turn c.args.library.now c.args.books.now c.args.turns.now start c.args.alone.now.table.setting c.loop-turn.alone c.turn_line.new.board c.loop-turn.threads c.index-threads-turn.result c.turn_line.new.thread c.loop-turn.lines.items c.push.new.self.items c.in_ok-line.line c.loop-turn.turn-index (length c.loop-turn.lines.items) p.0 item
                c.loop-turn.invariant.on.setting c.loop-turn-test.true c.turn-item.is within c.loop-turn.invariant.numbered (λ r is. turned c.loop-turn.alone.table.setting c.args.library.now c.args.books.now r c.loop-turn.alone c.turn_line.new.board (get_or c.loop-turn.threads item.thread c.index-threads-turn.result) c.turn_line.new.thread (turn_seen item) c.in_ok-line.line (taking c.args.library.now c.args.alone.now c.loop-turn.alone c.args.threads.now c.loop-turn.threads c.args.turns.now (length c.args.lines.now.items) (length c.loop-turn.lines.items) c.loop-turn.turn-index c.turn-item.result c.index-threads-turn.result c.requires.can c.loop-turn.invariant.on c.loop-turn.invariant.threads c.loop-turn.invariant.numbered c.loop-turn.invariant.lines c.requires.few c.requires.fit c.loop-turn-test.true c.turn-item.is).own c.in_ok-line.ensures.number c.in_ok-line.ensures.lines c.in_ok-line.ensures.leaves c.in_ok-line.ensures.variables is) c.in_ok-push.ensures.items p.1,
          );
    }
