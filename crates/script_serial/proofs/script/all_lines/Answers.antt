use Rattle.std.proofs.Common.{◌≤◌, List, length, map, sym, ap, ◌∙◌, arith}
use Rattle.script_out.specs.declared.output.OutLine.{OutLine}
use Rattle.script_wishes.specs.declared.turns.Turn.{Turn as LentTurn}
use Rattle.script_wishes.specs.Seen.{turn_seen}
use Rattle.script_plan.specs.Serial.{begun, played, commands_played}
use Rattle.script_lines.specs.Catalogs.{Books}
use Rattle.script_wishes.specs.Turns.{Turn, command_turns}
use Rattle.script_serial.proofs.PlayLemmas.{few_commands, can_play_commands, commands_fit, are_done, books_are, few_closings, can_play_closings, all_closings_fit, closed_is}
use Rattle.script_serial.proofs.script.all_lines.Goals as goal

pub play-requires-clause-can : goal.play-requires-clause-can
play-requires-clause-can c = can_play_commands (record { bundle = c.args.bundle.now; library = c.args.library.now; books = c.args.books.now.books }) c.args.alone.now c.args.threads.now c.as_slice.result.now c.requires.sound c.requires.begun c.requires.opening c.requires.threads c.requires.length (ap (λ (ts : List LentTurn). map turn_seen ts) c.as_slice.ensures.value ∙ c.in_ok-turns.ensures)

pub play-requires-clause-fit : goal.play-requires-clause-fit
play-requires-clause-fit c = commands_fit (record { bundle = c.args.bundle.now; library = c.args.library.now; books = c.args.books.now.books }) c.args.threads.now c.as_slice.result.now c.requires.sound c.requires.length (ap (λ (ts : List LentTurn). map turn_seen ts) c.as_slice.ensures.value ∙ c.in_ok-turns.ensures)

pub play-requires-clause-few : goal.play-requires-clause-few
play-requires-clause-few c =
    let few : length c.as_slice.result.now ≤ 20480000 = few_commands (record { bundle = c.args.bundle.now; library = c.args.library.now; books = c.args.books.now.books }) c.as_slice.result.now c.requires.sound (ap (λ (ts : List LentTurn). map turn_seen ts) c.as_slice.ensures.value ∙ c.in_ok-turns.ensures) in
    omega (arith, few, ap (λ (ls : List OutLine). length ls) c.in_ok-lines.ensures.items)

pub play-requires-2-clause-can : goal.play-requires-2-clause-can
play-requires-2-clause-can c = can_play_closings (record { bundle = c.args.bundle.now; library = c.args.library.now; books = c.args.books.now.books }) c.args.alone.now.table.setting c.play.new.alone c.play.new.threads (length c.play.new.lines.items) c.as_slice-2.result.now (are_done (record { bundle = c.args.bundle.now; library = c.args.library.now; books = c.args.books.now.books }) c.args.alone.now c.play.new.alone c.args.threads.now c.play.new.threads c.as_slice.result.now (length c.play.new.lines.items) c.requires.sound c.requires.begun c.requires.opening c.requires.threads (c.play.auto.threads ∙ c.requires.length) (ap (λ (ts : List LentTurn). map turn_seen ts) c.as_slice.ensures.value ∙ c.in_ok-turns.ensures)
    c.args.books.now (books_are c.args.bundle.now c.args.library.now c.args.books.now c.requires.blocks) (c.in_ok-play.ensures.at begun c.requires.begun (sym c.in_ok-lines.ensures.items)) c.in_ok-play.ensures.table c.in_ok-play.ensures.threads (omega (arith, c.in_ok-play.ensures.length, ap (λ (ls : List OutLine). length ls) c.in_ok-lines.ensures.items))) (ap (λ (ts : List LentTurn). map turn_seen ts) c.as_slice-2.ensures.value ∙ c.in_ok-turns-2.ensures)

pub play-requires-2-clause-fit : goal.play-requires-2-clause-fit
play-requires-2-clause-fit c = all_closings_fit (record { bundle = c.args.bundle.now; library = c.args.library.now; books = c.args.books.now.books }) c.args.alone.now.table.setting c.play.new.alone c.play.new.threads (length c.play.new.lines.items) c.as_slice-2.result.now (are_done (record { bundle = c.args.bundle.now; library = c.args.library.now; books = c.args.books.now.books }) c.args.alone.now c.play.new.alone c.args.threads.now c.play.new.threads c.as_slice.result.now (length c.play.new.lines.items) c.requires.sound c.requires.begun c.requires.opening c.requires.threads (c.play.auto.threads ∙ c.requires.length) (ap (λ (ts : List LentTurn). map turn_seen ts) c.as_slice.ensures.value ∙ c.in_ok-turns.ensures)
    c.args.books.now (books_are c.args.bundle.now c.args.library.now c.args.books.now c.requires.blocks) (c.in_ok-play.ensures.at begun c.requires.begun (sym c.in_ok-lines.ensures.items)) c.in_ok-play.ensures.table c.in_ok-play.ensures.threads (omega (arith, c.in_ok-play.ensures.length, ap (λ (ls : List OutLine). length ls) c.in_ok-lines.ensures.items))) (ap (λ (ts : List LentTurn). map turn_seen ts) c.as_slice-2.ensures.value ∙ c.in_ok-turns-2.ensures)

pub play-requires-2-clause-few : goal.play-requires-2-clause-few
play-requires-2-clause-few c =
    let few : length c.as_slice-2.result.now ≤ 655360016 = few_closings (record { bundle = c.args.bundle.now; library = c.args.library.now; books = c.args.books.now.books }) c.args.alone.now.table.setting c.play.new.alone c.play.new.threads (length c.play.new.lines.items) c.as_slice-2.result.now (are_done (record { bundle = c.args.bundle.now; library = c.args.library.now; books = c.args.books.now.books }) c.args.alone.now c.play.new.alone c.args.threads.now c.play.new.threads c.as_slice.result.now (length c.play.new.lines.items) c.requires.sound c.requires.begun c.requires.opening c.requires.threads (c.play.auto.threads ∙ c.requires.length) (ap (λ (ts : List LentTurn). map turn_seen ts) c.as_slice.ensures.value ∙ c.in_ok-turns.ensures)
    c.args.books.now (books_are c.args.bundle.now c.args.library.now c.args.books.now c.requires.blocks) (c.in_ok-play.ensures.at begun c.requires.begun (sym c.in_ok-lines.ensures.items)) c.in_ok-play.ensures.table c.in_ok-play.ensures.threads (omega (arith, c.in_ok-play.ensures.length, ap (λ (ls : List OutLine). length ls) c.in_ok-lines.ensures.items))) (ap (λ (ts : List LentTurn). map turn_seen ts) c.as_slice-2.ensures.value ∙ c.in_ok-turns-2.ensures) in
    let commands : length c.as_slice.result.now ≤ 20480000 = few_commands (record { bundle = c.args.bundle.now; library = c.args.library.now; books = c.args.books.now.books }) c.as_slice.result.now c.requires.sound (ap (λ (ts : List LentTurn). map turn_seen ts) c.as_slice.ensures.value ∙ c.in_ok-turns.ensures) in
    omega (arith, few, commands, c.in_ok-play.ensures.length, ap (λ (ls : List OutLine). length ls) c.in_ok-lines.ensures.items)

pub returns : goal.returns
returns c =
    closed_is (record { bundle = c.args.bundle.now; library = c.args.library.now; books = c.args.books.now.books }) c.args.alone.now.table.setting c.play.new.alone c.play.new.threads (length c.play.new.lines.items) c.as_slice-2.result.now c.play-2.new.lines.items (are_done (record { bundle = c.args.bundle.now; library = c.args.library.now; books = c.args.books.now.books }) c.args.alone.now c.play.new.alone c.args.threads.now c.play.new.threads c.as_slice.result.now (length c.play.new.lines.items) c.requires.sound c.requires.begun c.requires.opening c.requires.threads (c.play.auto.threads ∙ c.requires.length) (ap (λ (ts : List LentTurn). map turn_seen ts) c.as_slice.ensures.value ∙ c.in_ok-turns.ensures)
    c.args.books.now (books_are c.args.bundle.now c.args.library.now c.args.books.now c.requires.blocks) (c.in_ok-play.ensures.at begun c.requires.begun (sym c.in_ok-lines.ensures.items)) c.in_ok-play.ensures.table c.in_ok-play.ensures.threads (omega (arith, c.in_ok-play.ensures.length, ap (λ (ls : List OutLine). length ls) c.in_ok-lines.ensures.items))) (ap (λ (ts : List LentTurn). map turn_seen ts) c.as_slice-2.ensures.value ∙ c.in_ok-turns-2.ensures)
    c.args.books.now (books_are c.args.bundle.now c.args.library.now c.args.books.now c.requires.blocks) (c.in_ok-play-2.ensures.lines (commands_played c.args.alone.now.table.setting (record { bundle = c.args.bundle.now; library = c.args.library.now; books = c.args.books.now.books })) (are_done (record { bundle = c.args.bundle.now; library = c.args.library.now; books = c.args.books.now.books }) c.args.alone.now c.play.new.alone c.args.threads.now c.play.new.threads c.as_slice.result.now (length c.play.new.lines.items) c.requires.sound c.requires.begun c.requires.opening c.requires.threads (c.play.auto.threads ∙ c.requires.length) (ap (λ (ts : List LentTurn). map turn_seen ts) c.as_slice.ensures.value ∙ c.in_ok-turns.ensures)
    c.args.books.now (books_are c.args.bundle.now c.args.library.now c.args.books.now c.requires.blocks) (c.in_ok-play.ensures.at begun c.requires.begun (sym c.in_ok-lines.ensures.items)) c.in_ok-play.ensures.table c.in_ok-play.ensures.threads (omega (arith, c.in_ok-play.ensures.length, ap (λ (ls : List OutLine). length ls) c.in_ok-lines.ensures.items))).there
    (sym (c.in_ok-play.ensures.lines begun c.requires.begun (sym c.in_ok-lines.ensures.items) ∙ ap (λ (ts : List Turn). (played c.args.alone.now.table.setting c.args.library.now c.args.books.now begun ts).lines) (ap (λ (ts : List LentTurn). map turn_seen ts) c.as_slice.ensures.value ∙ c.in_ok-turns.ensures)
    ∙ ap (λ (bs : Books). (played c.args.alone.now.table.setting c.args.library.now bs begun (command_turns c.args.bundle.now)).lines) (books_are c.args.bundle.now c.args.library.now c.args.books.now c.requires.blocks))))
