-- One round of a script: what its workers may take, and what they leave.
use Rattle.std.proofs.Common.{◌≡◌, ℕ, zero, suc, ◌+◌, ◌<◌, ◌≤◌, Bool, true, false, cond, List, [], ◌∷◌, ◌++◌, length, map, reverse, Result, Ok, Err, refl, sym, ap, subst, ◌∙◌, arith, inl, inr}
use Rattle.std.specs.Prelude.{◌==◌, flat_map, All, OnOk, IsOk, slice_index_or}
use Rattle.std.specs.List.{range_with_len}
use Rattle.std.proofs.lemmas.Bool.{ne_eqb, false≢true}
use Rattle.std.proofs.lemmas.Bool.Decides.{eqb_tells}
use Rattle.std.proofs.lemmas.List.{append-nil, get_or_default, reverse-append, reverse-reverse}
use Rattle.std.proofs.lemmas.List.Elements.{All-nil, All-cons, All-head, All-tail, All-weaker, All-same, All-append, All-map, All-filter, filter-append}
use Rattle.handle_table.specs.Entry.{History, Setting}
use Rattle.handle_table.specs.Kept.{AreThreads}
use Rattle.catalog_handles.specs.declared.setting.CatalogSetting.{CatalogSetting}
use Rattle.catalog_handles.specs.Entry.{History as CatalogHistory}
use Rattle.catalog_handles.specs.Answer as catalog_answers
use Rattle.catalog_handles.specs.Reader as readers
use Rattle.catalog_handles.specs.Reader.{ReaderData}
use Rattle.catalog_handles.proofs.Meeting as reading
use Rattle.thread_current.specs.Thread.{Thread, IsThreadOf, IsInOrder, GoesOnFrom, entries_by}
use Rattle.script_out.specs.declared.output.OutLine.{OutLine}
use Rattle.script_commands.specs.declared.command.Placed.{Placed}
use Rattle.script_lines.specs.declared.thread.Thread.{Thread as ScriptThread}
use Rattle.script_wishes.specs.Turns.{Turn, in_round, in_thread, turn_of, thread_turns, turns_of_threads, round_turns}
use Rattle.script_plan.specs.Plan.{PlanData}
use Rattle.script_plan.proofs.LineLists.{all_left, filter_all, filter_none}
use Rattle.script_seats.specs.declared.seated.Seated.{Seated}
use Rattle.script_run.specs.declared.worker.Worker.{Worker}
use Rattle.script_seats.specs.Seated.{Gates}
use Rattle.script_run.specs.Timed.{Timed, IsWhole, AreAsked, HasStanding, catalog_places_by, own_lines, lines_in, turns_made, turn_made, places_by, stacked}
use Rattle.script_run.specs.Beside.{LibraryAndBooks, library_and_books_of, IsWorker, HasAskedSince, Works, turns_of}
use Rattle.script_run.specs.Rounds.{Each, EachTwo, mine_of, reader_at, IsFor, IsForAsked, IsOfBoth, IsOrderly, HasWorked, HasGiven, SeesMore, AllMet, IsReady, AreBetween, turns_to}
use Rattle.script_run.proofs.Growth.{are_right_grow}
use Rattle.script_run.proofs.Stacked.{EachOwn, HasAdded, own_stacked, all_stacked, whole_stacked}
use Rattle.script_run.proofs.Stacking.{IsOf, IsIn, IsBefore, stacked_back, flat_same, flat_next, Chosen, choose, is_same}
use Rattle.script_run.proofs.Seeing.{goes_on, as_long, between_same, same_places}
use Rattle.script_run.proofs.Keeping.{worker_kept}
use Rattle.script_run.proofs.SeatLines.{since_less}
use Rattle.script_run.proofs.AskedRounds.{HasAskedMore, standing_grow, asked_stacked}
use Rattle.script_run.proofs.AskedSeen.{between_asked_places}
use Rattle.script_run.proofs.Counting.{turns_next}

-- ---- the turns of a round, thread by thread

same_from : (a b : ℕ) → (a == b) ≡ true → a ≡ b
same_from a b e = elim (eqb_tells a b) [ inl h ↦ h.1 | inr h ↦ absurd (false≢true (sym h.0 ∙ e)) ]

abbrev is_turn_of : ℕ → Turn → Bool
is_turn_of thread t = t.thread == thread

-- a turn that is kept is of the thread
one_turn_of : (p : Placed) (ps : List Placed) (thread : ℕ) (b : Bool) → (p.thread == thread) ≡ b → All (λ (t : Turn). t.thread ≡ thread) (map turn_of ps) → All (λ (t : Turn). t.thread ≡ thread) (map turn_of (cond b (p ∷ ps) ps))
one_turn_of p ps thread true e all = All-cons (λ (t : Turn). t.thread ≡ thread) (turn_of p) (map turn_of ps) (same_from p.thread thread e) all
one_turn_of p ps thread false e all = all

turns_all_of : (ps : List Placed) (thread : ℕ) → All (λ (t : Turn). t.thread ≡ thread) (thread_turns ps thread)
turns_all_of [] thread = All-nil (λ (t : Turn). t.thread ≡ thread)
turns_all_of (p ∷ ps) thread = one_turn_of p (in_thread ps thread) thread (p.thread == thread) refl (turns_all_of ps thread)

own_turns : (ps : List Placed) (thread : ℕ) → turns_of thread (thread_turns ps thread) ≡ thread_turns ps thread
own_turns ps thread =
    filter_all (is_turn_of thread) (thread_turns ps thread)
    (All-weaker (λ (t : Turn). t.thread ≡ thread) (λ (t : Turn). is_turn_of thread t ≡ true) (λ t e. is_same t.thread thread e) (thread_turns ps thread) (turns_all_of ps thread))

no_turns_of : (ps : List Placed) (thread other : ℕ) → (other ≡ thread → ⊥) → turns_of thread (thread_turns ps other) ≡ []
no_turns_of ps thread other apart =
    filter_none (is_turn_of thread) (thread_turns ps other)
    (All-weaker (λ (t : Turn). t.thread ≡ other) (λ (t : Turn). is_turn_of thread t ≡ false) (λ t e. ne_eqb t.thread thread (λ same. apart (sym e ∙ same))) (thread_turns ps other) (turns_all_of ps other))

turns_next_thread : (ps : List Placed) (n thread : ℕ) → turns_of thread (turns_of_threads (suc n) ps) ≡ turns_of thread (turns_of_threads n ps) ++ turns_of thread (thread_turns ps n)
turns_next_thread ps n thread =
    ap (λ (ts : List Turn). turns_of thread ts) (flat_next (thread_turns ps) n)
    ∙ filter-append (is_turn_of thread) (turns_of_threads n ps) (thread_turns ps n)

turns_of_far : (ps : List Placed) (n thread : ℕ) → n ≤ thread → turns_of thread (turns_of_threads n ps) ≡ []
turns_of_far ps zero thread le = refl
turns_of_far ps (suc n) thread le =
    turns_next_thread ps n thread
    ∙ ap (λ (ts : List Turn). ts ++ turns_of thread (thread_turns ps n)) (turns_of_far ps n thread (omega (arith, le)))
    ∙ no_turns_of ps thread n (λ same. omega (arith, same, le))

-- among the turns of n threads, those of one of them
pub turns_of_near : (ps : List Placed) (n thread : ℕ) → thread < n → turns_of thread (turns_of_threads n ps) ≡ thread_turns ps thread
turns_of_near ps zero thread lt = absurd (omega (arith, lt))
turns_of_near ps (suc n) thread lt =
    elim (eqb_tells n thread) [
      | inl here ↦
          let there : turns_of n (turns_of_threads (suc n) ps) ≡ thread_turns ps n =
          turns_next_thread ps n n
          ∙ ap (λ (ts : List Turn). ts ++ turns_of n (thread_turns ps n)) (turns_of_far ps n n (omega arith))
          ∙ own_turns ps n
          in
          subst (λ (k : ℕ). turns_of k (turns_of_threads (suc n) ps) ≡ thread_turns ps k) here.1 there
      | inr apart ↦
          turns_next_thread ps n thread
          ∙ ap (λ (ts : List Turn). turns_of thread (turns_of_threads n ps) ++ ts) (no_turns_of ps thread n apart.1)
          ∙ append-nil (turns_of thread (turns_of_threads n ps))
          ∙ turns_of_near ps n thread (let differs = apart.1 in omega (arith, lt, differs))
    ]

-- a round's turns are those of its threads, one thread's after another's
pub turns_by_thread : (ps : List Placed) (n : ℕ) → flat_map (λ (j : ℕ). turns_of j (turns_of_threads n ps)) (range_with_len 0 n) ≡ turns_of_threads n ps
turns_by_thread ps n = flat_same (λ (j : ℕ). turns_of j (turns_of_threads n ps)) (thread_turns ps) n (λ j lt. turns_of_near ps n j lt)

-- and each is of the round
one_of_round : (p : Placed) (ps : List Placed) (round : ℕ) (b : Bool) → (p.round == round) ≡ b → All (λ (q : Placed). q.round ≡ round) ps → All (λ (q : Placed). q.round ≡ round) (cond b (p ∷ ps) ps)
one_of_round p ps round true e all = All-cons (λ (q : Placed). q.round ≡ round) p ps (same_from p.round round e) all
one_of_round p ps round false e all = all

all_of_round : (ps : List Placed) (round : ℕ) → All (λ (q : Placed). q.round ≡ round) (in_round round ps)
all_of_round [] round = All-nil (λ (q : Placed). q.round ≡ round)
all_of_round (p ∷ ps) round = one_of_round p (in_round round ps) round (p.round == round) refl (all_of_round ps round)

thread_of_round : (ps : List Placed) (round thread : ℕ) → All (λ (t : Turn). t.round ≡ round) (thread_turns (in_round round ps) thread)
thread_of_round ps round thread =
    All-map (λ (t : Turn). t.round ≡ round) turn_of (in_thread (in_round round ps) thread)
    (All-filter (λ (p : Placed). p.thread == thread) (λ (p : Placed). p.round ≡ round) (in_round round ps) (all_of_round ps round))

-- ---- what turns say of the lines that they made

back_in : (P : Turn → Type 0) (ts : List Timed) → All P (turns_made ts) → All (λ (t : Timed). P (turn_made t)) ts
back_in P [] all = All-nil (λ (t : Timed). P (turn_made t))
back_in P (t ∷ ts) all =
    All-cons (λ (u : Timed). P (turn_made u)) t ts (All-head P (turn_made t) (turns_made ts) all) (back_in P ts (All-tail P (turn_made t) (turns_made ts) all))

all_reversed : {X : Type 0} (P : X → Type 0) (xs : List X) → All P xs → All P (reverse xs)
all_reversed P [] all = all
all_reversed P (x ∷ xs) all =
    let back = all_reversed P xs (All-tail P x xs all) in
    All-same P (reverse (x ∷ xs)) (reverse xs ++ x ∷ []) (reverse-append (x ∷ []) xs) (All-append P (reverse xs) (x ∷ []) back (All-cons P x [] (All-head P x xs all) (All-nil P)))

-- lines that were made of turns, the newest first, are as the turns are
pub made_of : (P : Turn → Type 0) (ts : List Timed) (turns : List Turn) → turns_made ts ≡ reverse turns → All P turns → All (λ (t : Timed). P (turn_made t)) ts
made_of P ts turns are all = back_in P ts (subst (All P) (sym are) (all_reversed P turns all))

-- ---- what the workers leave

on_ok : {T E : Type 0} (P : Type 0) (r : Result T E) → IsOk r → OnOk r P → P
on_ok P (Ok x) is h = h
on_ok P (Err e) is h = absurd (false≢true is)

-- what it leaves where it was not out of memory
abbrev WorksFor : Gates → LibraryAndBooks → List Turn → Worker → Worker → Type 0
WorksFor gate library_and_books turns old new = (plan : PlanData) (made : List Timed) → library_and_books_of plan ≡ library_and_books → IsWorker gate plan old.thread made
    → Works gate plan (turns_of old.thread.side.number turns) old.thread new.thread made old.lines.items new.lines.items

-- what is known of a worker's lines of the round
pub record Share (gate : Gates) (plan : PlanData) (M W : History) (U V : CatalogHistory) (made : List Timed) (round : ℕ) (turns : List Turn) (worked met : List Worker) (d : Worker) (i : ℕ) (more : List Timed) : Type 0 where
  pub share : HasAdded gate.locales.terms.setting plan M W round made i more
  pub asked : HasAskedMore gate.catalogs.terms.setting U V made i more
  pub turns_are : turns_made more ≡ reverse (turns_of i turns)
  pub lines_are : (slice_index_or worked i d).lines.items ≡ reverse (lines_in more)
  pub number : (slice_index_or met i d).thread.side.number ≡ i
  pub worker : IsWorker gate plan (slice_index_or met i d).thread (more ++ own_lines i made)
  pub later : GoesOnFrom (mine_of (slice_index_or met i d)).seen W
  pub on : GoesOnFrom W M
  pub asked_later : readers.GoesOnFrom (reader_at (slice_index_or met i d)).seen V
  pub asked_on : readers.GoesOnFrom V U
  pub given : (slice_index_or met i d).lines.items ≡ []

-- what one worker leaves: it worked, gave its lines away, and met the others
left_by : (gate : Gates) (plan : PlanData) (M W : History) (U V : CatalogHistory) (made : List Timed) (round i : ℕ) (turns : List Turn) (ws worked given met : List Worker) (d : Worker)
    → All (λ (t : Turn). t.round ≡ round) (turns_of i turns)
    → IsReady gate plan M U made i (slice_index_or ws i d) → HasWorked gate (library_and_books_of plan) turns (slice_index_or ws i d) (slice_index_or worked i d) → HasGiven (slice_index_or worked i d) (slice_index_or given i d)
    → SeesMore gate (slice_index_or given i d) (slice_index_or met i d) → GoesOnFrom W (mine_of (slice_index_or given i d)).seen → GoesOnFrom (mine_of (slice_index_or met i d)).seen W
    → readers.GoesOnFrom V (reader_at (slice_index_or given i d)).seen → readers.GoesOnFrom (reader_at (slice_index_or met i d)).seen V
    → (more : List Timed) × Share gate plan M W U V made round turns worked met d i more
left_by gate plan M W U V made round i turns ws worked given met d in_round ready work give more from on asked_from asked_on =
    let old : Worker = slice_index_or ws i d in
    let done : Worker = slice_index_or worked i d in
    let gave : Worker = slice_index_or given i d in
    let new : Worker = slice_index_or met i d in
    let number : old.thread.side.number ≡ i = ready.number in
    let works : Works gate plan (turns_of old.thread.side.number turns) old.thread done.thread (own_lines i made) old.lines.items done.lines.items =
    on_ok (WorksFor gate (library_and_books_of plan) turns old done) done.outcome give.done work.works plan (own_lines i made) refl ready.worker
    in
    let kept_number : done.thread.side.number ≡ old.thread.side.number = on_ok (done.thread.side.number ≡ old.thread.side.number) done.outcome give.done work.number in
    let mine_is : mine_of gave ≡ mine_of done = ap (λ (t : ScriptThread Seated). t.side.mine) give.thread in
    let from_done : GoesOnFrom W (mine_of done).seen = subst (λ (t : Thread). GoesOnFrom W t.seen) mine_is from in
    let order : IsInOrder gate.locales.terms (mine_of new) = more.in_order (subst (IsInOrder gate.locales.terms) (sym mine_is) works.worker.made.in_order) in
    let reader_is : reader_at gave ≡ reader_at done = ap (λ (t : ScriptThread Seated). t.side.reader) give.thread in
    let asked_order : readers.IsInOrder gate.catalogs.terms (reader_at new) = more.asked_order (subst (readers.IsInOrder gate.catalogs.terms) (sym reader_is) works.worker.asked.in_order) in
    let asked_done : readers.GoesOnFrom V (reader_at done).seen = subst (λ (r : ReaderData). readers.GoesOnFrom V r.seen) reader_is asked_from in
    let own_reader : (reader_at done).number ≡ i = works.worker.asking.number ∙ on_ok (done.thread.side.number ≡ old.thread.side.number) done.outcome give.done work.number ∙ ready.number in
    let own_number : (mine_of done).number ≡ i = works.worker.seated.knows.number ∙ kept_number ∙ number in
    let gave_worker : IsWorker gate plan gave.thread (works.more ++ own_lines i made) = subst (λ (t : ScriptThread Seated). IsWorker gate plan t (works.more ++ own_lines i made)) (sym give.thread) works.worker in
    let new_worker : IsWorker gate plan new.thread (works.more ++ own_lines i made) =
    subst (λ (w : Worker). IsWorker gate plan w.thread (works.more ++ own_lines i made)) (sym more.same) (worker_kept gate plan gave.thread (mine_of new) (reader_at new) (works.more ++ own_lines i made) gave_worker more.saw order more.asked_saw asked_order)
    in
    let turns_are : turns_made works.more ≡ reverse (turns_of i turns) = works.turns ∙ ap (λ (n : ℕ). reverse (turns_of n turns)) number in
    let new_number : (mine_of new).number ≡ i = more.saw.same.number ∙ ap (λ (t : Thread). t.number) mine_is ∙ own_number in
    let same_calls : entries_by i (mine_of new).seen ≡ entries_by i (mine_of done).seen =
    ap (λ (n : ℕ). entries_by n (mine_of new).seen) (sym new_number)
    ∙ order.calls ∙ more.saw.calls ∙ ap (λ (t : Thread). t.calls) mine_is ∙ sym works.worker.made.in_order.calls
    ∙ ap (λ (n : ℕ). entries_by n (mine_of done).seen) own_number
    in
    let same : entries_by i W ≡ entries_by i (mine_of done).seen = between_same i (mine_of done).seen W (mine_of new).seen from_done on same_calls in
    let new_reader : (reader_at new).number ≡ i = more.asked_saw.same.number ∙ ap (λ (r : ReaderData). r.number) reader_is ∙ own_reader in
    let same_asked : readers.entries_by i (reader_at new).seen ≡ readers.entries_by i (reader_at done).seen =
    ap (λ (n : ℕ). readers.entries_by n (reader_at new).seen) (sym new_reader)
    ∙ asked_order.calls ∙ more.asked_saw.calls ∙ ap (λ (r : ReaderData). r.calls) reader_is ∙ sym works.worker.asked.in_order.calls
    ∙ ap (λ (n : ℕ). readers.entries_by n (reader_at done).seen) own_reader
    in
    let asked_long : length U ≤ length (reader_at old).seen = reading.as_long (reader_at old).seen U ready.asked_later in
    let since_long : length M ≤ length (mine_of old).seen = as_long (mine_of old).seen M ready.later in (
      works.more,
      record {
        asked = record {
          standing = standing_grow gate.catalogs.terms.setting V (reader_at done).seen works.more asked_done
              (all_left (HasStanding gate.catalogs.terms.setting (reader_at done).seen) works.more (own_lines i made) works.worker.asked.standing);
          since = All-weaker (HasAskedSince (length (reader_at old).seen)) (HasAskedSince (length U)) (λ t since. since_less (length (reader_at old).seen) (length U) t asked_long since) works.more works.asked_since;
          places = between_asked_places i (reader_at done).seen V (reader_at new).seen asked_done asked_on same_asked
              ∙ ap (λ (n : ℕ). catalog_places_by n (reader_at done).seen) (sym own_reader) ∙ works.worker.asked.places;
        };
        asked_later = asked_on;
        asked_on = reading.goes_on (reader_at done).seen U V asked_done (reading.goes_on (reader_at old).seen U (reader_at done).seen works.asked_later ready.asked_later);
        share = record {
          own = all_left (IsOf i) works.more (own_lines i made) (All-weaker (λ (m : Timed). m.task_line.line.thread ≡ (mine_of done).number) (IsOf i) (λ m e. e ∙ own_number) (works.more ++ own_lines i made) works.worker.made.own);
          of_round = made_of (λ (t : Turn). t.round ≡ round) works.more (turns_of i turns) turns_are in_round;
          right = are_right_grow gate.locales.terms.setting plan W (mine_of done).seen (works.more ++ own_lines i made) from_done works.worker.made.right;
          timed = works.worker.made.timed;
          places =
              same_places i (mine_of done).seen W from_done same
              ∙ ap (λ (n : ℕ). places_by n (mine_of done).seen) (sym own_number)
              ∙ works.worker.made.places;
          since = All-weaker (λ (t : Timed). length (mine_of old).seen ≤ t.moment) (λ (t : Timed). length M ≤ t.moment) (λ t le. omega (arith, le, since_long)) works.more works.since;
        };
        turns_are = turns_are;
        lines_are = works.added ∙ ap (λ (ls : List OutLine). ls ++ reverse (lines_in works.more)) ready.given;
        number = ap (λ (w : Worker). w.thread.side.number) more.same ∙ ap (λ (t : ScriptThread Seated). t.side.number) give.thread ∙ kept_number ∙ number;
        worker = new_worker;
        later = on;
        on = goes_on (mine_of done).seen M W from_done (goes_on (mine_of old).seen M (mine_of done).seen works.later ready.later);
        given = ap (λ (w : Worker). w.lines.items) more.same ∙ give.lines;
      },
    )

-- a worker that has worked and given its lines away is in order at its table
pub in_order_at : (gate : Gates) (plan : PlanData) (rounds : ℕ) (lines : List OutLine) (turns : List Turn) (ws worked given : List Worker)
    → AreBetween gate plan rounds lines ws → length worked ≡ length ws → length given ≡ length ws
    → EachTwo ws worked (λ i old new. HasWorked gate (library_and_books_of plan) turns old new) → EachTwo worked given (λ i old new. HasGiven old new)
    → Each given (λ i w. IsOfBoth gate w × IsOrderly gate w)
in_order_at gate plan rounds lines turns ws worked given was worked_long given_long work give = λ i d lt.
    let within : i < length ws = omega (arith, lt, given_long) in
    let w : HasWorked gate (library_and_books_of plan) turns (slice_index_or ws i d) (slice_index_or worked i d) = work i d within in
    let g : HasGiven (slice_index_or worked i d) (slice_index_or given i d) = give i d (omega (arith, within, worked_long)) in
    let worker = (on_ok (WorksFor gate (library_and_books_of plan) turns (slice_index_or ws i d) (slice_index_or worked i d)) (slice_index_or worked i d).outcome g.done w.works plan (own_lines i was.made) refl (was.ready i d within).worker).worker in
    let same : mine_of (slice_index_or given i d) ≡ mine_of (slice_index_or worked i d) = ap (λ (t : ScriptThread Seated). t.side.mine) g.thread in
    let same_reader : reader_at (slice_index_or given i d) ≡ reader_at (slice_index_or worked i d) = ap (λ (t : ScriptThread Seated). t.side.reader) g.thread in (
      (subst (IsThreadOf gate.locales) (sym same) worker.seated.thread, subst (readers.IsReaderOf gate.catalogs) (sym same_reader) worker.asking.thread),
      (subst (IsInOrder gate.locales.terms) (sym same) worker.made.in_order, subst (readers.IsInOrder gate.catalogs.terms) (sym same_reader) worker.asked.in_order),
    )

-- what is made of each element, in order, is what is made of their numbers
flat_by_place : {A B : Type 0} (f : A → List B) (g : ℕ → List B) (xs : List A) (d : A) (from : ℕ) → ((i : ℕ) → i < length xs → f (slice_index_or xs i d) ≡ g (from + i))
    → flat_map f xs ≡ flat_map g (range_with_len from (length xs))
flat_by_place f g [] d from same = refl
flat_by_place f g (x ∷ xs) d from same =
    let here : f x ≡ g from = same 0 (omega arith) ∙ ap g (omega arith) in
    ap (λ (ys : List _). ys ++ flat_map f xs) here
    ∙ ap (λ (ys : List _). g from ++ ys) (flat_by_place f g xs d (from + 1) (λ i lt. same (suc i) (omega (arith, lt)) ∙ ap g (omega arith)))

-- the turns that made all lines are those of one round more
all_turns_made : (plan : PlanData) (n rounds : ℕ) (made : List Timed) (more : ℕ → List Timed) (those : List Turn) → turns_made made ≡ reverse (turns_to plan.bundle rounds)
    → flat_map (λ (j : ℕ). turns_of j those) (range_with_len 0 n) ≡ those → those ≡ round_turns (length plan.bundle.threads) plan.bundle.commands (rounds + 1)
    → ((j : ℕ) → j < n → turns_made (more j) ≡ reverse (turns_of j those)) → turns_made (stacked more made n) ≡ reverse (turns_to plan.bundle (rounds + 1))
all_turns_made plan n rounds made more those was by_thread is each =
    let back : reverse (turns_made (stacked more made n)) ≡ turns_to plan.bundle (rounds + 1) =
    stacked_back turn_made more made n
    ∙ ap (λ (ts : List Turn). reverse ts ++ flat_map (λ (j : ℕ). reverse (turns_made (more j))) (range_with_len 0 n)) was
    ∙ ap (λ (ts : List Turn). ts ++ flat_map (λ (j : ℕ). reverse (turns_made (more j))) (range_with_len 0 n)) (reverse-reverse (turns_to plan.bundle rounds))
    ∙ ap (λ (ts : List Turn). turns_to plan.bundle rounds ++ ts) (
    flat_same (λ (j : ℕ). reverse (turns_made (more j))) (λ (j : ℕ). turns_of j those) n (λ j lt. ap (λ (ts : List Turn). reverse ts) (each j lt) ∙ reverse-reverse (turns_of j those))
    ∙ by_thread ∙ is)
    ∙ sym (turns_next plan.bundle rounds)
    in
    sym (reverse-reverse (turns_made (stacked more made n))) ∙ ap (λ (ts : List Turn). reverse ts) back

-- the workers after one more round
next_at : (gate : Gates) (plan : PlanData) (rounds : ℕ) (lines lines' : List OutLine) (turns : List Turn) (ws worked given met : List Worker) (d : Worker)
    → AreBetween gate plan rounds lines ws → IsFor plan gate.locales.terms → IsForAsked gate.locales.terms gate.catalogs.terms
    → turns ≡ round_turns (length plan.bundle.threads) plan.bundle.commands (rounds + 1)
    → length worked ≡ length ws → length given ≡ length ws → length met ≡ length ws
    → EachTwo ws worked (λ i old new. HasWorked gate (library_and_books_of plan) turns old new) → lines' ≡ lines ++ flat_map (λ (w : Worker). w.lines.items) worked
    → EachTwo worked given (λ i old new. HasGiven old new) → AllMet gate given met → AreBetween gate plan (rounds + 1) lines' met
next_at gate plan rounds lines lines' turns ws worked given met d was for for_asked turns_is worked_long given_long met_long work printed give all =
    let c : Setting = gate.locales.terms.setting in
    let n : ℕ = c.threads in
    let round : ℕ = rounds + 1 in
    let M : History = was.met in
    let W : History = all.met in
    let U : CatalogHistory = was.asked in
    let V : CatalogHistory = all.asked in
    let made : List Timed = was.made in
    let threads : n ≡ length plan.bundle.threads = for.threads in
    let count : length ws ≡ n = was.count in
    let those : List Turn = turns_of_threads n (in_round round plan.bundle.commands) in
    let turns_are : turns ≡ those = turns_is ∙ ap (λ (k : ℕ). turns_of_threads k (in_round round plan.bundle.commands)) (sym threads) in
    let own_turns : (i : ℕ) → i < n → turns_of i turns ≡ thread_turns (in_round round plan.bundle.commands) i = λ i lt.
    ap (λ (ts : List Turn). turns_of i ts) turns_are ∙ turns_of_near (in_round round plan.bundle.commands) n i lt
    in
    let chosen : Chosen (List Timed) (Share gate plan M W U V made round turns worked met d) n =
    choose (Share gate plan M W U V made round turns worked met d) n [] (λ i lt.
    let within : i < length ws = omega (arith, lt, count) in
    let within_worked : i < length worked = omega (arith, within, worked_long) in
    let within_given : i < length given = omega (arith, within, given_long) in
    let within_met : i < length met = omega (arith, within, met_long) in
    left_by gate plan M W U V made round i turns ws worked given met d
    (subst (All (λ (t : Turn). t.round ≡ round)) (sym (own_turns i lt)) (thread_of_round plan.bundle.commands round i))
    (was.ready i d within) (work i d within) (give i d within_worked) (all.more i d within_given) (all.from i d within_given) (all.on i d within_met) (all.asked_from i d within_given) (all.asked_on i d within_met))
    in
    let more : ℕ → List Timed = chosen.of in
    let some : 0 < n = let has = for.some in omega (arith, has, threads) in
    let before : All (IsBefore round) made = All-weaker (λ (t : Timed). t.task_line.line.round ≤ rounds) (IsBefore round) (λ t le. omega (arith, le)) made was.in_rounds in
    let own : EachOwn more n = λ j lt. (chosen.is j lt).share.own in
    let whole : IsWhole c plan W (stacked more made n) =
    whole_stacked c plan M W made more round was.whole before all.legal (subst (λ (k : ℕ). AreThreads k W) for.seats all.callers) (chosen.is 0 some).on (λ i lt. (chosen.is i lt).share)
    in
    let agree : gate.catalogs.terms.setting.threads ≡ n = ap (λ (s : CatalogSetting). s.threads) for_asked.agree in
    let seats_asked : gate.catalogs.terms.seats ≡ n = let a = for_asked.seats in let b = for.seats in omega (arith, a, b) in
    let asked_whole : AreAsked gate.catalogs.terms.setting V (stacked more made n) =
    subst (λ (k : ℕ). AreAsked gate.catalogs.terms.setting V (stacked more made k)) agree
    (asked_stacked gate.catalogs.terms.setting U V made more round was.asked_whole before
    (subst (λ (k : ℕ). All (λ (t : Timed). t.task_line.line.thread < k) made) (sym agree) was.whole.threads)
    (subst (λ (k : ℕ). All (λ (t : Timed). t.task_line.line.thread < k) (stacked more made k)) (sym agree) whole.threads)
    all.asked_legal all.asked_rising (subst (λ (k : ℕ). catalog_answers.AreThreads k V) (seats_asked ∙ sym agree) all.asked_callers) (chosen.is 0 some).asked_on
    (λ j lt. own j (omega (arith, lt, agree))) (λ j lt. (chosen.is j (omega (arith, lt, agree))).share.of_round) (λ j lt. (chosen.is j (omega (arith, lt, agree))).asked))
    in
    record {
      met = W;
      made = stacked more made n;
      whole = whole;
      asked = V;
      asked_whole = asked_whole;
      in_rounds = all_stacked (λ (t : Timed). t.task_line.line.round ≤ round) more made n
          (λ j lt. All-weaker (IsIn round) (λ (t : Timed). t.task_line.line.round ≤ round) (λ t e. omega (arith, e)) (more j) (chosen.is j lt).share.of_round)
          (All-weaker (IsBefore round) (λ (t : Timed). t.task_line.line.round ≤ round) (λ t lt. omega (arith, lt)) made before);
      turns = all_turns_made plan n rounds made more those
          (was.turns) (turns_by_thread (in_round round plan.bundle.commands) n)
          (ap (λ (k : ℕ). turns_of_threads k (in_round round plan.bundle.commands)) threads)
          (λ j lt. (chosen.is j lt).turns_are ∙ ap (λ (ts : List Turn). reverse (turns_of j ts)) turns_are);
      lines_are = printed
          ∙ ap (λ (ls : List OutLine). ls ++ flat_map (λ (w : Worker). w.lines.items) worked) was.lines_are
          ∙ ap (λ (ls : List OutLine). reverse (lines_in made) ++ ls) (
          flat_by_place (λ (w : Worker). w.lines.items) (λ (j : ℕ). reverse (lines_in (more j))) worked d 0
          (λ i lt. (chosen.is i (omega (arith, lt, worked_long, count))).lines_are ∙ ap (λ (k : ℕ). reverse (lines_in (more k))) (omega arith))
          ∙ ap (λ (k : ℕ). flat_map (λ (j : ℕ). reverse (lines_in (more j))) (range_with_len 0 k)) (worked_long ∙ count))
          ∙ sym (stacked_back (λ (t : Timed). t.task_line.line) more made n);
      count = met_long ∙ count;
      ready = λ i e lt.
          let below : i < n = omega (arith, lt, met_long, count) in
          let here = chosen.is i below in
          let same : slice_index_or met i d ≡ slice_index_or met i e = get_or_default met i d e lt in
          subst (IsReady gate plan W V (stacked more made n) i) same (record {
            number = here.number;
            worker = subst (IsWorker gate plan (slice_index_or met i d).thread) (sym (own_stacked more made n i own below)) here.worker;
            later = here.later;
            asked_later = here.asked_later;
            given = here.given;
          });
    }

-- the same, whatever the workers are
pub between_next : (gate : Gates) (plan : PlanData) (rounds : ℕ) (lines lines' : List OutLine) (turns : List Turn) (ws worked given met : List Worker)
    → AreBetween gate plan rounds lines ws → IsFor plan gate.locales.terms → IsForAsked gate.locales.terms gate.catalogs.terms
    → turns ≡ round_turns (length plan.bundle.threads) plan.bundle.commands (rounds + 1)
    → length worked ≡ length ws → length given ≡ length ws → length met ≡ length ws
    → EachTwo ws worked (λ i old new. HasWorked gate (library_and_books_of plan) turns old new) → lines' ≡ lines ++ flat_map (λ (w : Worker). w.lines.items) worked
    → EachTwo worked given (λ i old new. HasGiven old new) → AllMet gate given met → AreBetween gate plan (rounds + 1) lines' met
between_next gate plan rounds lines lines' turns [] worked given met was for for_asked turns_is worked_long given_long met_long work printed give all =
    let none : 0 ≡ gate.locales.terms.setting.threads = was.count in
    let some : 0 < length plan.bundle.threads = for.some in
    let threads : gate.locales.terms.setting.threads ≡ length plan.bundle.threads = for.threads in
    absurd (omega (arith, none, some, threads))
between_next gate plan rounds lines lines' turns (w ∷ ws) worked given met was for for_asked turns_is worked_long given_long met_long work printed give all =
    next_at gate plan rounds lines lines' turns (w ∷ ws) worked given met w was for for_asked turns_is worked_long given_long met_long work printed give all
