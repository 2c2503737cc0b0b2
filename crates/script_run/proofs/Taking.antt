-- What a worker may take: its turns of a round, and what closes it.
use Rattle.std.proofs.Common.{◌≡◌, ℕ, ◌+◌, ◌<◌, ◌≤◌, Bool, List, ◌++◌, length, reverse, refl, sym, ap, subst, ◌∙◌, arith, length-append}
use Rattle.std.specs.Prelude.{◌≢◌, ◌==◌, filter, All, slice_index_or}
use Rattle.std.proofs.lemmas.List.{length-map, length-reverse}
use Rattle.std.proofs.lemmas.List.Elements.{All-weaker, All-filter, All-map}
use Rattle.std.proofs.lemmas.List.Sums.{length-filter, count_by-le-length}
use Rattle.category_store.specs.LibraryData.{LibraryData}
use Rattle.category_store.specs.Library.{opening}
use Rattle.category_store.specs.Shelf.{IsNumbered, IsInstallable}
use Rattle.handle_table.specs.Entry as table
use Rattle.handle_table.specs.Entry.{Setting}
use Rattle.script_commands.specs.InRange.{IsInRange}
use Rattle.script_commands.specs.declared.command.Command.{Command}
use Rattle.script_commands.specs.declared.command.Placed.{Placed}
use Rattle.script_lang.specs.Accepted.{IsPlaced}
use Rattle.script_out.specs.declared.output.OutLine.{OutLine}
use Rattle.script_wishes.specs.Wishes.{TaskMay}
use Rattle.script_wishes.specs.Turns.{Runs, Turn, in_round, in_thread, turn_of, thread_turns, round_turns}
use Rattle.script_wishes.proofs.WishLemmas.{command_may}
use Rattle.script_plan.specs.Plan.{PlanData, IsSound}
use Rattle.script_run.specs.declared.worker.Worker.{Worker}
use Rattle.script_seats.specs.Seated.{Gates, IsNoEnd, MayCall}
use Rattle.script_run.specs.Timed.{Timed, own_lines, turns_made, turn_made}
use Rattle.script_run.specs.Beside.{library_and_books_of, turns_of}
use Rattle.script_run.specs.Workers.{MayWork}
use Rattle.script_run.specs.Rounds.{Each, reader_at, IsFor, IsForAsked, IsReady, AreBetween, turns_to}
use Rattle.script_run.proofs.AskedSeen.{asked_few}
use Rattle.script_run.proofs.Counting.{few_turns_to, turns_next}
use Rattle.script_run.proofs.Rounding.{turns_of_near}

-- ---- a command may be asked for at a shared table

no_end : (op : table.Op) → op ≢ table.End → IsNoEnd op
no_end (table.New mask numbers base) apart = tt
no_end (table.Dup n) apart = tt
no_end (table.Free n) apart = tt
no_end (table.Use n) apart = tt
no_end (table.Hold n) apart = tt
no_end (table.Release n) apart = tt
no_end (table.SetGlobal mask numbers) apart = tt
no_end (table.Install m offer) apart = tt
no_end (table.Post k n) apart = tt
no_end (table.Fetch owner k) apart = tt
no_end (table.Pins n) apart = tt
no_end table.End apart = absurd (apart refl)

task_may : (c : Setting) (library : LibraryData) (command : Command) → IsNumbered library → IsInstallable library → c.opening ≡ opening library → IsInRange c.threads command → TaskMay library (MayCall c) (Runs command)
task_may c library command numbered installable own range = λ b. command_may c (MayCall c) (λ op fits apart. (fits, no_end op apart)) library b command numbered installable own range

-- the turns of a thread in a round may be asked for
thread_may : (c : Setting) (plan : PlanData) (round thread : ℕ) → IsSound plan → c.opening ≡ opening plan.library → c.threads ≡ length plan.bundle.threads
    → All (λ (turn : Turn). TaskMay plan.library (MayCall c) turn.task) (thread_turns (in_round round plan.bundle.commands) thread)
thread_may c plan round thread sound own threads =
    let ps : List Placed = in_round round plan.bundle.commands in
    All-map (λ (turn : Turn). TaskMay plan.library (MayCall c) turn.task) turn_of (in_thread ps thread)
    (All-weaker (IsPlaced (length plan.bundle.threads) plan.bundle.rounds) (λ (p : Placed). TaskMay plan.library (MayCall c) (Runs p.command))
    (λ p placed. task_may c plan.library p.command sound.numbered sound.installable own (subst (λ (n : ℕ). IsInRange n p.command) (sym threads) placed.in_range)) (in_thread ps thread)
    (All-filter (λ (p : Placed). p.thread == thread) (IsPlaced (length plan.bundle.threads) plan.bundle.rounds) ps
    (All-filter (λ (p : Placed). p.round == round) (IsPlaced (length plan.bundle.threads) plan.bundle.rounds) plan.bundle.commands sound.accepted.commands)))

-- ---- what the workers may take

pub filter_short : {X : Type 0} (p : X → Bool) (xs : List X) → length (filter p xs) ≤ length xs
filter_short p xs = let same = length-filter p xs in let few = count_by-le-length p xs in omega (arith, same, few)

-- there are no more lines than turns so far
pub lines_few : (plan : PlanData) (rounds : ℕ) (made : List Timed) → turns_made made ≡ reverse (turns_to plan.bundle rounds) → length made ≡ length (turns_to plan.bundle rounds)
lines_few plan rounds made same =
    sym (length-map made turn_made) ∙ ap (λ (ts : List Turn). length ts) same ∙ length-reverse (turns_to plan.bundle rounds)

pub may_work : (gate : Gates) (plan : PlanData) (rounds : ℕ) (lines : List OutLine) (ws : List Worker) (turns : List Turn) → AreBetween gate plan rounds lines ws → IsSound plan → IsFor plan gate.locales.terms
    → IsForAsked gate.locales.terms gate.catalogs.terms → turns ≡ round_turns (length plan.bundle.threads) plan.bundle.commands (rounds + 1) → Each ws (λ i w. MayWork gate (library_and_books_of plan) turns w)
may_work gate plan rounds lines ws turns was sound for for_asked turns_is = λ i d lt.
    let c : Setting = gate.locales.terms.setting in
    let w : Worker = slice_index_or ws i d in
    let ready : IsReady gate plan was.met was.asked was.made i w = was.ready i d lt in
    let below : i < length plan.bundle.threads = let count = was.count in let threads = for.threads in omega (arith, lt, count, threads) in
    let ps : List Placed = in_round (rounds + 1) plan.bundle.commands in
    let own : turns_of w.thread.side.number turns ≡ thread_turns ps i =
    ap (λ (k : ℕ). turns_of k turns) ready.number ∙ ap (λ (ts : List Turn). turns_of i ts) turns_is ∙ turns_of_near ps (length plan.bundle.threads) i below
    in
    let made_long : length was.made ≡ length (turns_to plan.bundle rounds) = lines_few plan rounds was.made was.turns in
    let own_few : length (own_lines i was.made) ≤ length was.made = filter_short (λ (t : Timed). t.task_line.line.thread == i) was.made in
    let turns_few : length (turns_of w.thread.side.number turns) ≤ length turns = filter_short (λ (t : Turn). t.thread == w.thread.side.number) turns in
    let next : length (turns_to plan.bundle (rounds + 1)) ≡ length (turns_to plan.bundle rounds) + length turns =
    ap (λ (ts : List Turn). length ts) (turns_next plan.bundle rounds ∙ ap (λ (ts : List Turn). turns_to plan.bundle rounds ++ ts) (sym turns_is)) ∙ length-append (turns_to plan.bundle rounds) turns
    in
    let most : length (turns_to plan.bundle (rounds + 1)) ≤ length plan.bundle.commands = few_turns_to plan.bundle (rounds + 1) in
    let commands : length plan.bundle.commands ≤ 20000 = sound.accepted.few_commands in
    let few = ready.worker.few in
    let counted = ready.worker.lines in
    let quota = for.quota in
    let asked_quota = for_asked.quota in
    let asked : length (reader_at w).calls ≤ length (own_lines i was.made) = asked_few gate.catalogs.terms (reader_at w) (own_lines i was.made) ready.worker.asked in
    record {
      numbered = sound.numbered;
      installable = sound.installable;
      opening = for.opening;
      calls = record {
        calls = record { seated = ready.worker.seated; quota = omega (arith, few, own_few, turns_few, next, most, made_long, quota) };
        asks = record { seated = ready.worker.asking; quota = omega (arith, asked, asked_quota, own_few, turns_few, next, most, made_long, quota) };
        agree = ready.worker.agree;
      };
      few = omega (arith, counted, own_few, turns_few, next, most, made_long, commands);
      fits = subst (All (λ (turn : Turn). TaskMay plan.library (MayCall c) turn.task)) (sym own) (thread_may c plan (rounds + 1) i sound for.opening for.threads);
    }
