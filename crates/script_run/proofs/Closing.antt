-- The threads of a script close, one after another.
use Rattle.std.proofs.Common.{◌≡◌, ℕ, zero, suc, ◌+◌, ◌<◌, ◌≤◌, Bool, true, false, cond, List, [], ◌∷◌, ◌++◌, length, reverse, refl, sym, ap, subst, ◌∙◌, arith, inl, inr, length-append}
use Rattle.std.specs.Prelude.{◌==◌, flat_map, All, slice_index_or}
use Rattle.std.specs.List.{range_with_len}
use Rattle.std.proofs.Math.Seq.{get_or-append_seam}
use Rattle.std.proofs.lemmas.Bool.Decides.{eqb_tells}
use Rattle.std.proofs.lemmas.List.{get_or_append_left, length-map, map-append, reverse-append, reverse-reverse}
use Rattle.std.proofs.lemmas.List.Elements.{All-nil, All-cons, All-head, All-tail, All-append, All-weaker, All-map}
use Rattle.handle_table.specs.Entry.{Entry, History, Setting}
use Rattle.handle_table.specs.Answer.{IsLegal}
use Rattle.handle_table.specs.Kept.{AreThreads}
use Rattle.handle_table.specs.Table.{TableData, StandsFor}
use Rattle.turn_gate.specs.Callers.{IsSeatOf}
use Rattle.catalog_handles.specs.declared.setting.CatalogSetting.{CatalogSetting}
use Rattle.catalog_handles.specs.Entry.{History as CatalogHistory}
use Rattle.catalog_handles.proofs.Meeting as reading
use Rattle.script_lines.specs.Catalogs.{catalog_setting}
use Rattle.turn_gate.specs.Ends.{SomeCaller}
use Rattle.thread_current.specs.Thread.{Thread, thread_of, IsInOrder, SawMore, GoesOnFrom, IsPart, entries_by}
use Rattle.thread_current.specs.Mine.{HeldData}
use Rattle.script_out.specs.declared.output.OutLine.{OutLine}
use Rattle.script_wishes.specs.declared.holds.OpenHold.{OpenHold}
use Rattle.script_lines.specs.declared.thread.Thread.{Thread as ScriptThread}
use Rattle.script_wishes.specs.Holds.{open_holds, holds_after}
use Rattle.script_wishes.specs.Turns.{Turn, Ends, Releases, closing_turn, releases, closing, closing_turns}
use Rattle.script_plan.specs.Plan.{PlanData, IsSound}
use Rattle.script_plan.specs.Prints.{Prints}
use Rattle.script_plan.proofs.LineLists.{all_left}
use Rattle.script_seats.specs.declared.seated.Seated.{Seated}
use Rattle.script_run.specs.declared.worker.Worker.{Worker}
use Rattle.script_seats.specs.Seated.{held_data, Gates}
use Rattle.script_run.specs.Timed.{Timed, AreTimed, IsWhole, AreAsked, own_lines, lines_in, turns_made, turn_made, last_end, end_of, places_by, placed_back, stacked}
use Rattle.script_run.specs.Beside.{library_and_books_of, IsWorker, CanClose, Closes}
use Rattle.script_run.specs.Rounds.{Each, EachTwo, IsFor, IsForAsked, mine_of, reader_at, turns_to, IsReady, AreBetween, SeatData, SeatSeesMore, IsCloser, AreClosing}
use Rattle.script_run.proofs.Growth.{are_right_grow}
use Rattle.script_seats.proofs.OwnCalls.{holds_says}
use Rattle.script_run.proofs.Stacked.{HasAdded, stacked_onto, whole_stacked}
use Rattle.script_run.proofs.Stacking.{IsOf, IsBefore, right_within, stacked_same, stacked_back, flat_same, and_at, at_here, at_other}
use Rattle.script_run.proofs.Seeing.{goes_on, as_long, entries_of_both, no_entry, same_places, made_kept, thread_with}
use Rattle.script_run.proofs.Keeping.{worker_kept}
use Rattle.script_run.proofs.AskedSeen.{asked_few}
use Rattle.script_run.proofs.LineSteps.{one_more_hold}
use Rattle.script_run.proofs.Rounding.{made_of}
use Rattle.script_run.proofs.Taking.{lines_few, filter_short}
use Rattle.script_run.proofs.Counting.{few_turns_to}
use Rattle.script_run.proofs.Whole.{prints}

-- ---- before the first one closes

pub closing_begun : (gate : Gates) (plan : PlanData) (lines : List OutLine) (ws : List Worker) → AreBetween gate plan plan.bundle.rounds lines ws → AreClosing gate plan [] ws lines
closing_begun gate plan lines ws was = record {
  met = was.met;
  made = was.made;
  whole = was.whole;
  asked = was.asked;
  asked_whole = was.asked_whole;
  in_rounds = was.in_rounds;
  turns = was.turns;
  count = let same = was.count in omega (arith, same);
  ready = λ i d lt. subst (λ (k : ℕ). IsReady gate plan was.met was.asked was.made k (slice_index_or ws i d)) (omega arith) (was.ready i d lt);
  closers = record { more = λ _. []; closers = λ i d lt. absurd (omega (arith, lt)); timed = tt; last = λ i d lt. absurd (omega (arith, lt)) };
  lines_are = was.lines_are;
}

-- ---- a thread's calls, by how many they are

one_as_many : (e : Entry) (n : ℕ) (es : History) (ps : List ℕ) (b : Bool) → length ps ≡ length es → length (cond b (n ∷ ps) ps) ≡ length (cond b (e ∷ es) es)
one_as_many e n es ps true same = omega (arith, same)
one_as_many e n es ps false same = same

as_many : (t : ℕ) (H : History) → length (places_by t H) ≡ length (entries_by t H)
as_many t [] = refl
as_many t (e ∷ H) = one_as_many e (length H) (entries_by t H) (places_by t H) (e.who == t) (as_many t H)

same_by_number : (t : ℕ) (S T : History) → GoesOnFrom T S → length (entries_by t T) ≡ length (entries_by t S) → entries_by t T ≡ entries_by t S
same_by_number t S T later same =
    let both : entries_by t T ≡ entries_by t later.0 ++ entries_by t S = ap (entries_by t) later.1 ∙ entries_of_both t later.0 S in
    let long : length (entries_by t T) ≡ length (entries_by t later.0) + length (entries_by t S) = ap (λ (H : History). length H) both ∙ length-append (entries_by t later.0) (entries_by t S) in
    let none : entries_by t later.0 ≡ [] = no_entry (entries_by t later.0) (omega (arith, long, same)) in
    both ∙ ap (λ (H : History). H ++ entries_by t S) none

-- a worker that is ready has seen no more of its own calls than there are in the common history
ready_calls : (gate : Gates) (plan : PlanData) (M : History) (V : CatalogHistory) (made : List Timed) (i : ℕ) (w : Worker) → IsReady gate plan M V made i w → places_by i M ≡ placed_back (own_lines i made) → entries_by i (mine_of w).seen ≡ entries_by i M
ready_calls gate plan M V made i w ready places =
    let own : (mine_of w).number ≡ i = ready.worker.seated.knows.number ∙ ready.number in
    let there : places_by i (mine_of w).seen ≡ placed_back (own_lines i made) = ap (λ (n : ℕ). places_by n (mine_of w).seen) (sym own) ∙ ready.worker.made.places in
    let same : length (places_by i (mine_of w).seen) ≡ length (places_by i M) = ap (λ (ps : List ℕ). length ps) (there ∙ sym places) in
    let a = as_many i (mine_of w).seen in
    let b = as_many i M in
    same_by_number i M (mine_of w).seen ready.later (omega (arith, same, a, b))

-- ---- moments, one thread's behind another's

timed_join : (more ts : List Timed) → AreTimed more → AreTimed ts → All (λ (t : Timed). last_end ts ≤ t.moment) more → AreTimed (more ++ ts)
timed_join [] ts timed old since = old
timed_join (t ∷ []) ts timed old since = (All-head (λ (u : Timed). last_end ts ≤ u.moment) t [] since, old)
timed_join (t ∷ (u ∷ more)) ts timed old since = (timed.0, timed_join (u ∷ more) ts timed.1 old (All-tail (λ (v : Timed). last_end ts ≤ v.moment) t (u ∷ more) since))

last_within : (more ts : List Timed) (most : ℕ) → All (λ (t : Timed). end_of t ≤ most) more → last_end ts ≤ most → last_end (more ++ ts) ≤ most
last_within [] ts most within old = old
last_within (t ∷ more) ts most within old = All-head (λ (u : Timed). end_of u ≤ most) t more within

-- the last of the closing lines ends within what a thread has seen that met the last seat
last_before : (seats : List SeatData) (mine : Thread) (more : ℕ → List Timed) → ((i : ℕ) (d : SeatData) → i < length seats → i + 1 ≡ length seats → length (thread_of 0 (slice_index_or seats i d)).seen ≤ length mine.seen)
    → Each seats (λ i s. i + 1 ≡ length seats → last_end (stacked more [] (length seats)) ≤ length (thread_of 0 s).seen) → last_end (stacked more [] (length seats)) ≤ length mine.seen
last_before [] mine more met last = omega arith
last_before (s ∷ ss) mine more met last =
    let at : length ss + 1 ≡ length (s ∷ ss) = omega arith in
    let a = met (length ss) s (omega arith) at in
    let b = last (length ss) s (omega arith) at in
    omega (arith, a, b)

-- ---- one more thread closes

-- a seat that saw more closed as it did
closer_kept : (gate : Gates) (plan : PlanData) (round : ℕ) (M : History) (made : List Timed) (i : ℕ) (more : List Timed) (old new : SeatData) → IsCloser gate plan round M made i more old → SeatSeesMore gate.locales old new
    → IsCloser gate plan round M made i more new
closer_kept gate plan round M made i more old new was saw = record {
  seat = saw.seat was.seat;
  number = saw.saw.same.number ∙ was.number;
  has = made_kept gate.locales.terms plan (thread_of 0 old) (thread_of 0 new) (more ++ own_lines i made) was.has saw.saw (saw.in_order was.has.in_order);
  turns = was.turns;
  since = was.since;
  later = goes_on (thread_of 0 old).seen M (thread_of 0 new).seen saw.saw.later was.later;
}

-- what is known when a worker closes: it has met the seat before it, and its lines and its seat are these
pub record ClosesNext (gate : Gates) (plan : PlanData) (seats others : List SeatData) (w : Worker) (mine : Thread) (lines : List OutLine) (seat : SeatData) : Type 0 where
  pub saw : SawMore (mine_of w) mine
  pub in_order : IsInOrder gate.locales.terms (mine_of w) → IsInOrder gate.locales.terms mine
  pub long : length others ≡ length seats
  pub more : EachTwo seats others (λ i old new. SeatSeesMore gate.locales old new)
  pub last : Each seats (λ i s. i + 1 ≡ length seats → GoesOnFrom mine.seen (thread_of 0 s).seen)
  pub closes : (made : List Timed) → IsWorker gate plan (thread_with w.thread mine) made → Closes gate plan (plan.bundle.rounds + 1) (thread_with w.thread mine) seat made w.lines.items lines
  pub seat_of : IsSeatOf gate.locales seat
  pub number : seat.number ≡ w.thread.side.number

-- a thread holds no more than it has called
few_if : (e : Entry) (es : History) (os : List OpenHold) (b : Bool) → length os ≤ length es → length (cond b (holds_after os e.op e.reply) os) ≤ length (cond b (e ∷ es) es)
few_if e es os true le = let one = one_more_hold os e.op e.reply in omega (arith, one, le)
few_if e es os false le = le

holds_few : (t : ℕ) (H : History) → length (open_holds H t) ≤ length (entries_by t H)
holds_few t [] = omega arith
holds_few t (e ∷ H) = few_if e (entries_by t H) (open_holds H t) (e.who == t) (holds_few t H)

-- a worker that has met the seats before it can be closed
pub can_close : (gate : Gates) (plan : PlanData) (seats : List SeatData) (w : Worker) (ws : List Worker) (mine : Thread) (lines : List OutLine) → AreClosing gate plan seats (w ∷ ws) lines → IsSound plan → IsFor plan gate.locales.terms → IsForAsked gate.locales.terms gate.catalogs.terms
    → SawMore (mine_of w) mine → (IsInOrder gate.locales.terms (mine_of w) → IsInOrder gate.locales.terms mine) → CanClose gate (library_and_books_of plan) (thread_with w.thread mine)
can_close gate plan seats w ws mine lines was sound for for_asked saw orders =
    let k : ℕ = length seats in
    let made : List Timed = was.made in
    let ready : IsReady gate plan was.met was.asked made k w = subst (λ (j : ℕ). IsReady gate plan was.met was.asked made j w) (omega arith) (was.ready 0 w (omega arith)) in
    let order : IsInOrder gate.locales.terms mine = orders ready.worker.made.in_order in
    let worker : IsWorker gate plan (thread_with w.thread mine) (own_lines k made) = worker_kept gate plan w.thread mine (reader_at w) (own_lines k made) ready.worker saw order (reading.saw_same (reader_at w)) ready.worker.asked.in_order in
    let made_long : length made ≡ length (turns_to plan.bundle plan.bundle.rounds) = lines_few plan plan.bundle.rounds made was.turns in
    let own_few : length (own_lines k made) ≤ length made = filter_short (λ (t : Timed). t.task_line.line.thread == k) made in
    let most : length (turns_to plan.bundle plan.bundle.rounds) ≤ length plan.bundle.commands = few_turns_to plan.bundle plan.bundle.rounds in
    let commands : length plan.bundle.commands ≤ 20000 = sound.accepted.few_commands in
    let holds : length w.thread.side.holds.items ≡ length (open_holds mine.seen w.thread.side.number) =
    ap (λ (hs : List HeldData). length hs) worker.seated.knows.holds ∙ length-map (open_holds mine.seen w.thread.side.number) held_data
    in
    let few = worker.few in
    let counted = worker.lines in
    let quota = for.quota in
    let asked_quota = for_asked.quota in
    let asked : length (reader_at w).calls ≤ length (own_lines k made) = asked_few gate.catalogs.terms (reader_at w) (own_lines k made) worker.asked in
    let held : length (open_holds mine.seen w.thread.side.number) ≤ length (entries_by w.thread.side.number mine.seen) = holds_few w.thread.side.number mine.seen in
    let calls : length (entries_by w.thread.side.number mine.seen) ≡ length mine.calls =
    ap (λ (n : ℕ). length (entries_by n mine.seen)) (sym worker.seated.knows.number) ∙ ap (λ (H : History). length H) worker.seated.in_order.calls
    in
    record {
      numbered = sound.numbered;
      installable = sound.installable;
      opening = for.opening;
      calls = record {
        calls = record { seated = worker.seated; quota = omega (arith, few, holds, own_few, made_long, most, quota) };
        asks = record { seated = worker.asking; quota = omega (arith, asked, asked_quota, few, held, calls, holds, own_few, made_long, most, quota) };
        agree = worker.agree;
      };
      few = omega (arith, counted, few, holds, own_few, made_long, most, commands);
    }

pub closing_next : (gate : Gates) (plan : PlanData) (seats others all : List SeatData) (w : Worker) (ws : List Worker) (mine : Thread) (lines closed lines' : List OutLine) (seat : SeatData)
    → AreClosing gate plan seats (w ∷ ws) lines → ClosesNext gate plan seats others w mine closed seat → all ≡ others ++ seat ∷ [] → lines' ≡ lines ++ closed → AreClosing gate plan all ws lines'
closing_next gate plan seats others all w ws mine lines closed lines' seat was next all_is lines_is =
    let n : ℕ = gate.locales.terms.setting.threads in
    let k : ℕ = length seats in
    let round : ℕ = plan.bundle.rounds + 1 in
    let M : History = was.met in
    let V : CatalogHistory = was.asked in
    let made : List Timed = was.made in
    let count : k + length (w ∷ ws) ≡ n = was.count in
    let ready : IsReady gate plan M V made k w = subst (λ (j : ℕ). IsReady gate plan M V made j w) (omega arith) (was.ready 0 w (omega arith)) in
    let order : IsInOrder gate.locales.terms mine = next.in_order ready.worker.made.in_order in
    let worker : IsWorker gate plan (thread_with w.thread mine) (own_lines k made) = worker_kept gate plan w.thread mine (reader_at w) (own_lines k made) ready.worker next.saw order (reading.saw_same (reader_at w)) ready.worker.asked.in_order in
    let closes : Closes gate plan round (thread_with w.thread mine) seat (own_lines k made) w.lines.items closed = next.closes (own_lines k made) worker in
    let new : List Timed = closes.more in
    let old : ℕ → List Timed = was.closers.more in
    let more : ℕ → List Timed = and_at old k new in
    let here : more k ≡ new = at_here old k new in
    let before : (made : List Timed) → stacked more made k ≡ stacked old made k = λ earlier. stacked_same more old earlier k (λ j lt. at_other old k new j lt) in
    let own : seat.number ≡ k = next.number ∙ ready.number in
    let own_mine : mine.number ≡ k = next.saw.same.number ∙ ready.worker.seated.knows.number ∙ ready.number in
    let calls_w : entries_by k (mine_of w).seen ≡ entries_by k M = ready_calls gate plan M V made k w ready (was.whole.places k (omega (arith, count))) in
    let own_w : (mine_of w).number ≡ k = ready.worker.seated.knows.number ∙ ready.number in
    let calls : entries_by k mine.seen ≡ entries_by k M =
    ap (λ (j : ℕ). entries_by j mine.seen) (sym own_mine) ∙ order.calls ∙ next.saw.calls ∙ sym ready.worker.made.in_order.calls ∙ ap (λ (j : ℕ). entries_by j (mine_of w).seen) own_w ∙ calls_w
    in
    let turns : turns_made new ≡ reverse (closing round k (open_holds M k)) =
    closes.turns
    ∙ ap (λ (j : ℕ). reverse (closing round j (open_holds mine.seen j))) ready.number
    ∙ ap (λ (os : List OpenHold). reverse (closing round k os)) (holds_says k mine.seen M calls)
    in
    let mine_later : GoesOnFrom mine.seen M = goes_on (mine_of w).seen M mine.seen next.saw.later ready.later in
    let long_M : length M ≤ length mine.seen = as_long mine.seen M mine_later in
    let closer : IsCloser gate plan round M made k new seat = record {
      seat = next.seat_of;
      number = own;
      has = closes.made;
      turns = turns;
      since = All-weaker (λ (t : Timed). length mine.seen ≤ t.moment) (λ (t : Timed). length M ≤ t.moment) (λ t le. omega (arith, le, long_M)) new closes.since;
      later = goes_on mine.seen M (thread_of 0 seat).seen closes.later mine_later;
    } in
    let last_old : last_end (stacked old [] k) ≤ length mine.seen = last_before seats mine old (λ i d lt e. as_long mine.seen (thread_of 0 (slice_index_or seats i d)).seen (next.last i d lt e)) was.closers.last in
    let since_old : All (λ (t : Timed). last_end (stacked old [] k) ≤ t.moment) new =
    All-weaker (λ (t : Timed). length mine.seen ≤ t.moment) (λ (t : Timed). last_end (stacked old [] k) ≤ t.moment) (λ t le. omega (arith, le, last_old)) new closes.since
    in
    let all_long : length all ≡ suc k =
    let long = next.long in
    let both : length all ≡ length others + 1 = ap (λ (ss : List SeatData). length ss) all_is ∙ length-append others (seat ∷ []) in
    omega (arith, long, both)
    in
    let stack : stacked more [] (suc k) ≡ new ++ stacked old [] k = ap (λ (ts : List Timed). ts ++ stacked more [] k) here ∙ ap (λ (ts : List Timed). new ++ ts) (before []) in
    let stack_made : stacked more made (suc k) ≡ new ++ stacked old made k = ap (λ (ts : List Timed). ts ++ stacked more made k) here ∙ ap (λ (ts : List Timed). new ++ ts) (before made) in
    let seat_at : (i : ℕ) (d : SeatData) → i ≡ k → slice_index_or all i d ≡ seat = λ i d e.
    ap (λ (ss : List SeatData). slice_index_or ss i d) all_is ∙ ap (λ (j : ℕ). slice_index_or (others ++ seat ∷ []) j d) (e ∙ sym next.long) ∙ get_or-append_seam others seat [] d
    in
    let long_seat : length mine.seen ≤ length (thread_of 0 seat).seen = as_long (thread_of 0 seat).seen mine.seen closes.later in
    let last_new : last_end (stacked more [] (suc k)) ≤ length (thread_of 0 seat).seen =
    subst (λ (ts : List Timed). last_end ts ≤ length (thread_of 0 seat).seen) (sym stack)
    (last_within new (stacked old [] k) (length (thread_of 0 seat).seen)
    (right_within gate.locales.terms.setting plan (thread_of 0 seat).seen new (own_lines k made) closes.made.right) (omega (arith, last_old, long_seat)))
    in
    record {
      met = M;
      made = made;
      whole = was.whole;
      asked = V;
      asked_whole = was.asked_whole;
      in_rounds = was.in_rounds;
      turns = was.turns;
      count = omega (arith, count, all_long);
      ready = λ i d lt. subst (λ (j : ℕ). IsReady gate plan M V made j (slice_index_or ws i d)) (omega (arith, all_long)) (was.ready (suc i) d (omega (arith, lt)));
      closers = record {
        more = more;
        closers = λ i d lt. elim (eqb_tells i k) [
          | inl at ↦
              subst (λ (s : SeatData). IsCloser gate plan round M made i (more i) s) (sym (seat_at i d at.1))
              (subst (λ (j : ℕ). IsCloser gate plan round M made j (more j) seat) (sym at.1) (subst (λ (ts : List Timed). IsCloser gate plan round M made k ts seat) (sym here) closer))
          | inr apart ↦
              let below : i < k = let differs = apart.1 in omega (arith, lt, all_long, differs) in
              let there : slice_index_or all i d ≡ slice_index_or others i d =
              ap (λ (ss : List SeatData). slice_index_or ss i d) all_is ∙ get_or_append_left others (seat ∷ []) d i (let long = next.long in omega (arith, below, long))
              in
              subst (λ (s : SeatData). IsCloser gate plan round M made i (more i) s) (sym there)
              (subst (λ (ts : List Timed). IsCloser gate plan round M made i ts (slice_index_or others i d)) (sym (at_other old k new i below))
              (closer_kept gate plan round M made i (old i) (slice_index_or seats i d) (slice_index_or others i d) (was.closers.closers i d below) (next.more i d below)))
        ];
        timed = subst (λ (j : ℕ). AreTimed (stacked more [] j)) (sym all_long) (subst AreTimed (sym stack) (timed_join new (stacked old [] k) closes.timed was.closers.timed since_old));
        last = λ i d lt e.
            subst (λ (j : ℕ). last_end (stacked more [] j) ≤ length (thread_of 0 (slice_index_or all i d)).seen) (sym all_long)
            (subst (λ (s : SeatData). last_end (stacked more [] (suc k)) ≤ length (thread_of 0 s).seen) (sym (seat_at i d (omega (arith, e, all_long)))) last_new);
      };
      lines_are =
          lines_is ∙ ap (λ (ls : List OutLine). lines ++ ls) (closes.added ∙ ap (λ (ls : List OutLine). ls ++ reverse (lines_in new)) ready.given) ∙ ap (λ (ls : List OutLine). ls ++ reverse (lines_in new)) was.lines_are
          ∙ sym (
          ap (λ (j : ℕ). reverse (lines_in (stacked more made j))) all_long
          ∙ ap (λ (ts : List Timed). reverse (lines_in ts)) stack_made
          ∙ ap (λ (ls : List OutLine). reverse ls) (map-append (λ (t : Timed). t.task_line.line) new (stacked old made k))
          ∙ reverse-append (lines_in new) (lines_in (stacked old made k)));
    }

-- ---- when all have closed

-- the turns that close a thread are of the last round
closing_round : (round thread : ℕ) (holds : List OpenHold) → All (λ (t : Turn). t.round ≡ round) (closing round thread holds)
closing_round round thread holds =
    All-append (λ (t : Turn). t.round ≡ round) (releases round thread holds) (closing_turn round thread Ends ∷ [])
    (All-map (λ (t : Turn). t.round ≡ round) (λ (o : OpenHold). closing_turn round thread (Releases o.handle)) holds (λ k d lt. refl))
    (All-cons (λ (t : Turn). t.round ≡ round) (closing_turn round thread Ends) [] refl (All-nil (λ (t : Turn). t.round ≡ round)))

-- the lines of a thread that has closed, where all entries are this history
share_of : (gate : Gates) (plan : PlanData) (round : ℕ) (M H : History) (made : List Timed) (i : ℕ) (more : List Timed) (seat : SeatData) → IsCloser gate plan round M made i more seat → IsPart H seat
    → HasAdded gate.locales.terms.setting plan M H round made i more
share_of gate plan round M H made i more seat closer part =
    let own : seat.number ≡ i = closer.number in
    let seen : History = (thread_of 0 seat).seen in
    let same : entries_by i H ≡ entries_by i seen =
    ap (λ (j : ℕ). entries_by j H) (sym own) ∙ part.1 ∙ sym closer.has.in_order.calls ∙ ap (λ (j : ℕ). entries_by j seen) own
    in
    record {
      own = all_left (IsOf i) more (own_lines i made) (All-weaker (λ (m : Timed). m.task_line.line.thread ≡ seat.number) (IsOf i) (λ m e. e ∙ own) (more ++ own_lines i made) closer.has.own);
      of_round = made_of (λ (t : Turn). t.round ≡ round) more (closing round i (open_holds M i)) closer.turns (closing_round round i (open_holds M i));
      right = are_right_grow gate.locales.terms.setting plan H seen (more ++ own_lines i made) part.0 closer.has.right;
      timed = closer.has.timed;
      places = same_places i seen H part.0 same ∙ ap (λ (j : ℕ). places_by j seen) (sym own) ∙ closer.has.places;
      since = closer.since;
    }

first_of : (seats : List SeatData) → 0 < length seats → SeatData
first_of [] some = absurd (omega (arith, some))
first_of (s ∷ ss) some = s

-- the lines of a script whose threads have closed are such as it may print
pub closed_prints : (gate : Gates) (plan : PlanData) (seats : List SeatData) (lines : List OutLine) (table : TableData) (H : History) → AreClosing gate plan seats [] lines → IsFor plan gate.locales.terms → catalog_setting gate.locales.terms.setting ≡ gate.catalogs.terms.setting
    → StandsFor table H → table.setting ≡ gate.locales.terms.setting → All (IsPart H) seats → Prints gate.locales.terms.setting plan lines
closed_prints gate plan seats lines table H was for agree stands same parts =
    let c : Setting = gate.locales.terms.setting in
    let n : ℕ = c.threads in
    let M : History = was.met in
    let made : List Timed = was.made in
    let round : ℕ = plan.bundle.rounds + 1 in
    let more : ℕ → List Timed = was.closers.more in
    let all : length seats ≡ n = let count = was.count in omega (arith, count) in
    let threads : n ≡ length plan.bundle.threads = for.threads in
    let legal : IsLegal c H = subst (λ (s : Setting). IsLegal s H) same stands.keeps.legal in
    let callers : AreThreads n H = subst (λ (s : Setting). AreThreads s.threads H) same stands.keeps.callers in
    let before : All (IsBefore round) made = All-weaker (λ (t : Timed). t.task_line.line.round ≤ plan.bundle.rounds) (IsBefore round) (λ t le. omega (arith, le)) made was.in_rounds in
    let shares : (d : SeatData) (i : ℕ) → i < n → HasAdded c plan M H round made i (more i) = λ d i lt.
    let within : i < length seats = omega (arith, lt, all) in
    share_of gate plan round M H made i (more i) (slice_index_or seats i d) (was.closers.closers i d within) (parts i d within)
    in
    let some : 0 < length seats = let has = for.some in omega (arith, has, all, threads) in
    let d : SeatData = first_of seats some in
    let later : GoesOnFrom H M = goes_on (thread_of 0 (slice_index_or seats 0 d)).seen M H (parts 0 d some).0 (was.closers.closers 0 d some).later in
    let whole : IsWhole c plan H (stacked more made n) = whole_stacked c plan M H made more round was.whole before legal callers later (shares d) in
    let upon : stacked more made n ≡ stacked more [] n ++ made = stacked_onto more made n in
    let back : reverse (turns_made (stacked more [] n)) ≡ closing_turns plan.bundle M =
    stacked_back turn_made more [] n
    ∙ flat_same (λ (j : ℕ). reverse (turns_made (more j))) (λ (j : ℕ). closing round j (open_holds M j)) n
    (λ j lt. ap (λ (ts : List Turn). reverse ts) (was.closers.closers j d (omega (arith, lt, all))).turns ∙ reverse-reverse (closing round j (open_holds M j)))
    ∙ ap (λ (k : ℕ). flat_map (λ (j : ℕ). closing round j (open_holds M j)) (range_with_len 0 k)) threads
    in
    subst (Prints c plan) (sym (was.lines_are ∙ ap (λ (k : ℕ). reverse (lines_in (stacked more made k))) all ∙ ap (λ (ts : List Timed). reverse (lines_in ts)) upon))
    (prints c plan M H (stacked more [] n) made was.whole was.turns (subst (IsWhole c plan H) upon whole)
    (sym (reverse-reverse (turns_made (stacked more [] n))) ∙ ap (λ (ts : List Turn). reverse ts) back)
    (subst (λ (k : ℕ). AreTimed (stacked more [] k)) all was.closers.timed)
    was.asked (subst (λ (s : CatalogSetting). AreAsked s was.asked made) (sym agree) was.asked_whole))

-- ---- the seats that go back

some_at : (n : ℕ) (seats : List SeatData) (i : ℕ) (d : SeatData) → i < length seats → (slice_index_or seats i d).number ≡ n → SomeCaller n seats
some_at n [] i d lt is = absurd (omega (arith, lt))
some_at n (s ∷ ss) zero d lt is = inl is
some_at n (s ∷ ss) (suc i) d lt is = inr (some_at n ss i d (omega (arith, lt)) is)

pub numbers_of : (gate : Gates) (plan : PlanData) (seats all : List SeatData) (lines : List OutLine) → AreClosing gate plan seats [] lines → IsFor plan gate.locales.terms → all ≡ seats → (n : ℕ) → n < gate.locales.terms.seats → SomeCaller n all
numbers_of gate plan seats all lines was for same n lt =
    let count = was.count in
    let many = for.seats in
    let below : n < length seats = omega (arith, lt, count, many) in
    let d : SeatData = first_of seats (omega (arith, below)) in
    subst (SomeCaller n) (sym same) (some_at n seats n d below (was.closers.closers n d below).number)

-- the same, where the worker that closes is given as the thread that has met the seats
pub closing_step : (gate : Gates) (plan : PlanData) (seats others all : List SeatData) (w : Worker) (ws : List Worker) (t : ScriptThread Seated) (lines closed lines' : List OutLine) (seat : SeatData)
    → AreClosing gate plan seats (w ∷ ws) lines → t ≡ thread_with w.thread t.side.mine → SawMore (mine_of w) t.side.mine → (IsInOrder gate.locales.terms (mine_of w) → IsInOrder gate.locales.terms t.side.mine)
    → length others ≡ length seats → EachTwo seats others (λ i old new. SeatSeesMore gate.locales old new) → Each seats (λ i s. i + 1 ≡ length seats → GoesOnFrom t.side.mine.seen (thread_of 0 s).seen)
    → ((made : List Timed) → IsWorker gate plan t made → Closes gate plan (plan.bundle.rounds + 1) t seat made w.lines.items closed) → IsSeatOf gate.locales seat → seat.number ≡ t.side.number
    → all ≡ others ++ seat ∷ [] → lines' ≡ lines ++ closed → AreClosing gate plan all ws lines'
closing_step gate plan seats others all w ws t lines closed lines' seat was same saw order long more last closes seat_of number all_is lines_is =
    closing_next gate plan seats others all w ws t.side.mine lines closed lines' seat was
    (record {
      saw = saw;
      in_order = order;
      long = long;
      more = more;
      last = last;
      closes = subst (λ (u : ScriptThread Seated). (made : List Timed) → IsWorker gate plan u made → Closes gate plan (plan.bundle.rounds + 1) u seat made w.lines.items closed) same closes;
      seat_of = seat_of;
      number = number ∙ ap (λ (u : ScriptThread Seated). u.side.number) same;
    }) all_is lines_is
