-- The two plays of a script: its commands, and what closes its threads.
use Rattle.std.proofs.Common.{◌≡◌, ℕ, ◌+◌, ◌*◌, ◌≤◌, List, [], length, map, refl, sym, ap, subst, ◌∙◌, arith}
use Rattle.std.specs.Prelude.{flat_map, All}
use Rattle.std.proofs.lemmas.List.{length-map}
use Rattle.lc_base.specs.declared.block.Block.{Block}
use Rattle.mask_compose.specs.Offer.{Offered}
use Rattle.msg_catalog.specs.declared.book.Message.{Message}
use Rattle.script_lines.specs.Catalogs.{Books}
use Rattle.category_store.specs.LibraryData.{LibraryData}
use Rattle.category_store.specs.Library.{opening}
use Rattle.handle_table.specs.Entry.{History, Setting}
use Rattle.script_serial.specs.Alone.{AloneData}
use Rattle.script_lang.specs.declared.bundle.Bundle.{Bundle}
use Rattle.script_out.specs.declared.output.OutLine.{OutLine}
use Rattle.script_wishes.specs.declared.turns.Turn.{Turn as LentTurn}
use Rattle.script_plan.specs.Plan.{PlanData, IsSound, books_of}
use Rattle.script_wishes.specs.Seen.{turn_seen, TurnFits}
use Rattle.script_plan.specs.Serial.{Run, setting, played, begun, commands_played, closed, serial_lines}
use Rattle.script_serial.specs.Session.{ThreadData, AreAt, ops_answered, GoesOn, AreNumbered, CanPlay}
use Rattle.script_wishes.specs.Turns.{Turn, command_turns, closing, closing_turns}
use Rattle.script_serial.proofs.TurnLemmas.{AreFrom, few_turns, turns_fit, few_closing, closing_is, closings_fit}
use Rattle.script_plan.proofs.RoundTurns.{no_turns, no_closing_turns}
use Rattle.script_plan.proofs.PlanParts.{made_plan, plan_is}

-- ---- the commands

pub few_commands : (plan : PlanData) (turns : List LentTurn) → IsSound plan → map turn_seen turns ≡ command_turns plan.bundle → length turns ≤ 20480000
few_commands plan turns sound same =
    let long : length (map turn_seen turns) ≡ length turns = length-map turns turn_seen in
    let all : length (map turn_seen turns) ≡ length (command_turns plan.bundle) = ap (λ (ts : List Turn). length ts) same in
    let few : length (command_turns plan.bundle) ≤ 20480000 = few_turns plan.bundle sound.accepted in
    omega arith

pub can_play_commands : (plan : PlanData) (board : AloneData) (threads : List ThreadData) (turns : List LentTurn) → IsSound plan → AreAt board threads begun
    → board.table.setting.opening ≡ opening plan.library → board.table.setting.threads ≡ length plan.bundle.threads → length threads ≡ length plan.bundle.threads
    → map turn_seen turns ≡ command_turns plan.bundle → CanPlay plan.library board threads (length turns)
can_play_commands plan board threads turns sound at shelf many long same =
    let few : length turns ≤ 20480000 = few_commands plan turns sound same in
    let none : board.table.count ≡ 0 = at.stands.steps in
    let not_asked : board.asked ≡ 0 = at.catalogs.asked in
    record { opening = shelf; threads = many ∙ sym long; steps = omega arith }

pub commands_fit : (plan : PlanData) (threads : List ThreadData) (turns : List LentTurn) → IsSound plan → length threads ≡ length plan.bundle.threads → map turn_seen turns ≡ command_turns plan.bundle
    → All (TurnFits (length threads)) (map turn_seen turns)
commands_fit plan threads turns sound long same =
    subst (λ (n : ℕ). All (TurnFits n) (map turn_seen turns)) (sym long) (subst (All (TurnFits (length plan.bundle.threads))) (sym same) (turns_fit plan.bundle sound.accepted))

-- ---- what closes the threads

-- a table with its catalogs and threads after all commands of a plan, which made so many lines
pub record AreDone (plan : PlanData) (c : Setting) (board : AloneData) (threads : List ThreadData) (printed : ℕ) : Type 0 where
  pub sound : IsSound plan
  pub there : AreAt board threads (commands_played c plan)
  pub same : board.table.setting ≡ c
  pub shelf : c.opening ≡ opening plan.library
  pub many : c.threads ≡ length plan.bundle.threads
  pub long : length threads ≡ length plan.bundle.threads
  pub numbered : AreNumbered printed threads
  pub printed_few : printed ≤ 20480000
  pub steps_few : ops_answered board ≤ 40960000

pub are_done : (plan : PlanData) (start board : AloneData) (before threads : List ThreadData) (turns : List LentTurn) (printed : ℕ) → IsSound plan → AreAt start before begun
    → start.table.setting.opening ≡ opening plan.library → start.table.setting.threads ≡ length plan.bundle.threads → length threads ≡ length plan.bundle.threads
    → map turn_seen turns ≡ command_turns plan.bundle
    → (books : Books) → books ≡ books_of plan → AreAt board threads (played start.table.setting plan.library books begun (map turn_seen turns)) → GoesOn (2 * length turns) start board → AreNumbered printed threads → printed ≤ length turns
    → AreDone plan start.table.setting board threads printed
are_done plan start board before threads turns printed sound at shelf many long same books read after on numbered few =
    let commands : length turns ≤ 20480000 = few_commands plan turns sound same in
    let none : start.table.count ≡ 0 = at.stands.steps in
    let not_asked : start.asked ≡ 0 = at.catalogs.asked in
    let made : ops_answered board ≤ ops_answered start + 2 * length turns = on.steps in
    record {
      sound = sound;
      there =
          subst (λ (ts : List Turn). AreAt board threads (played start.table.setting plan.library (books_of plan) begun ts)) same
          (subst (λ (bs : Books). AreAt board threads (played start.table.setting plan.library bs begun (map turn_seen turns))) read after);
      same = on.setting;
      shelf = shelf;
      many = many;
      long = long;
      numbered = numbered;
      printed_few = omega arith;
      steps_few = omega arith;
    }

numbers_from : (printed : ℕ) (threads : List ThreadData) → AreNumbered printed threads → AreFrom 0 threads
numbers_from printed threads numbered = λ i d lt. let own = (numbered i d lt).number in omega (arith, own)

-- the turns that close these threads
abbrev pub closings_of : PlanData → List ThreadData → List Turn
closings_of plan threads = flat_map (λ (t : ThreadData). closing (plan.bundle.rounds + 1) t.side.number t.side.holds) threads

pub closings_are : (plan : PlanData) (c : Setting) (board : AloneData) (threads : List ThreadData) (printed : ℕ) → AreDone plan c board threads printed
    → closings_of plan threads ≡ closing_turns plan.bundle (commands_played c plan).history
closings_are plan c board threads printed done =
    closing_is plan.bundle (commands_played c plan).history (plan.bundle.rounds + 1) threads refl done.long (numbers_from printed threads done.numbered) (λ k d lt. (done.there.follow k d lt).knows.holds)

pub few_closings : (plan : PlanData) (c : Setting) (board : AloneData) (threads : List ThreadData) (printed : ℕ) (turns : List LentTurn) → AreDone plan c board threads printed
    → map turn_seen turns ≡ closings_of plan threads → length turns ≤ 655360016
few_closings plan c board threads printed turns done same =
    let H : History = (commands_played c plan).history in
    let entries : board.table.count ≡ length H = done.there.stands.steps in
    let made : ops_answered board ≤ 40960000 = done.steps_few in
    let few : length (closing_turns plan.bundle H) ≤ 655360016 = few_closing plan.bundle H done.sound.accepted (omega arith) in
    let all : length (map turn_seen turns) ≡ length (closing_turns plan.bundle H) = ap (λ (ts : List Turn). length ts) (same ∙ closings_are plan c board threads printed done) in
    let long : length (map turn_seen turns) ≡ length turns = length-map turns turn_seen in
    omega arith

pub can_play_closings : (plan : PlanData) (c : Setting) (board : AloneData) (threads : List ThreadData) (printed : ℕ) (turns : List LentTurn) → AreDone plan c board threads printed
    → map turn_seen turns ≡ closings_of plan threads → CanPlay plan.library board threads (length turns)
can_play_closings plan c board threads printed turns done same =
    let few : length turns ≤ 655360016 = few_closings plan c board threads printed turns done same in
    let made : ops_answered board ≤ 40960000 = done.steps_few in
    record {
      opening = ap (λ (s : Setting). s.opening) done.same ∙ done.shelf;
      threads = ap (λ (s : Setting). s.threads) done.same ∙ done.many ∙ sym done.long;
      steps = omega arith;
    }

pub all_closings_fit : (plan : PlanData) (c : Setting) (board : AloneData) (threads : List ThreadData) (printed : ℕ) (turns : List LentTurn) → AreDone plan c board threads printed
    → map turn_seen turns ≡ closings_of plan threads → All (TurnFits (length threads)) (map turn_seen turns)
all_closings_fit plan c board threads printed turns done same =
    subst (All (TurnFits (length threads))) (sym same) (closings_fit (length threads) (plan.bundle.rounds + 1) 0 threads (numbers_from printed threads done.numbered) (omega arith))

-- the lines of a plan
pub closed_is : (plan : PlanData) (c : Setting) (board : AloneData) (threads : List ThreadData) (printed : ℕ) (turns : List LentTurn) (lines : List OutLine) → AreDone plan c board threads printed
    → map turn_seen turns ≡ closings_of plan threads → (books : Books) → books ≡ books_of plan → lines ≡ (played board.table.setting plan.library books (commands_played c plan) (map turn_seen turns)).lines
    → lines ≡ (closed c plan (commands_played c plan)).lines
closed_is plan c board threads printed turns lines done same books read is =
    is
    ∙ ap (λ (bs : Books). (played board.table.setting plan.library bs (commands_played c plan) (map turn_seen turns)).lines) read
    ∙ ap (λ (s : Setting). (played s plan.library (books_of plan) (commands_played c plan) (map turn_seen turns)).lines) done.same
    ∙ ap (λ (ts : List Turn). (played c plan.library (books_of plan) (commands_played c plan) ts).lines) (same ∙ closings_are plan c board threads printed done)

-- a plan without threads has no line
pub no_lines : (plan : PlanData) (rows generations : ℕ) → plan.bundle.threads ≡ [] → serial_lines rows generations plan ≡ []
no_lines plan rows generations none =
    let c : Setting = setting plan rows generations in
    let commands : commands_played c plan ≡ begun = ap (played c plan.library (books_of plan) begun) (no_turns plan.bundle none) in
    let closes : closing_turns plan.bundle (commands_played c plan).history ≡ [] = no_closing_turns plan.bundle (commands_played c plan).history none in
    ap (λ (ts : List Turn). (played c plan.library (books_of plan) (commands_played c plan) ts).lines) closes ∙ ap (λ (r : Run). r.lines) commands

-- the catalogs whose blocks are those of a bundle are those of a plan with it
pub books_are : (bundle : Bundle) (library : LibraryData) (books : Books) → books.blocks ≡ bundle.catalogs → books ≡ books_of (record { bundle = bundle; library = library; books = books.books })
books_are bundle library books same = ap (λ (blocks : List Block). record { blocks = blocks; books = books.books }) same

abbrev made_setting : ℕ → ℕ → ℕ → List Offered → Setting
made_setting threads rows generations offers = record { threads = threads; rows = rows; generations = generations; opening = offers }

-- the lines that are printed are those of the plan
pub serial_lines_are : (plan : PlanData) (rows generations count : ℕ) (bundle : Bundle) (library : LibraryData) (books : List (List Message)) (c : Setting) (lines : List OutLine)
    → c ≡ record { threads = count; rows = rows; generations = generations; opening = opening library } → count ≡ length bundle.threads → bundle ≡ plan.bundle → library ≡ plan.library → books ≡ plan.books
    → lines ≡ (closed c (record { bundle = bundle; library = library; books = books }) (commands_played c (record { bundle = bundle; library = library; books = books }))).lines → lines ≡ serial_lines rows generations plan
serial_lines_are plan rows generations count bundle library books c lines own many same of read is =
    let made : PlanData = made_plan bundle library books in
    let whole : made ≡ plan = plan_is plan bundle library books same of read in
    let set : c ≡ setting made rows generations = own ∙ ap (λ (n : ℕ). made_setting n rows generations (opening library)) many in
    is ∙ ap (λ (s : Setting). (closed s made (commands_played s made)).lines) set ∙ ap (λ (p : PlanData). serial_lines rows generations p) whole
