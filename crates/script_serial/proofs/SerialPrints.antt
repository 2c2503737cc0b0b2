-- What `serial` prints is what a script may print, and its places go up from line to line.
use Rattle.std.proofs.Common.{◌≡◌, ℕ, zero, suc, ◌+◌, ◌<◌, ◌≤◌, Bool, true, false, cond, List, [], ◌∷◌, ◌++◌, length, map, flat_map, refl, sym, ap, subst, ◌∙◌, arith, inl, inr}
use Rattle.std.specs.Prelude.{◌==◌, nat_lt, nat_le, count_by, All}
use Rattle.std.specs.List.{range_with_len}
use Rattle.std.proofs.lemmas.Bool.{cases_lt, lt-ltb, le-ltb, lt-leb, le-leb, eqb-true}
use Rattle.std.proofs.lemmas.List.Elements.{All-nil, All-cons, All-head, All-tail, All-append, All-weaker, All-map}
use Rattle.std.proofs.lemmas.List.FromFn.{length-range_with_len}
use Rattle.category_store.specs.LibraryData.{LibraryData}
use Rattle.handle_table.specs.Entry.{History, Setting}
use Rattle.script_commands.specs.declared.command.Placed.{Placed}
use Rattle.script_lang.specs.declared.bundle.Bundle.{Bundle}
use Rattle.script_out.specs.declared.output.OutLine.{OutLine}
use Rattle.script_wishes.specs.declared.holds.OpenHold.{OpenHold}
use Rattle.script_plan.specs.Plan.{PlanData, books_of}
use Rattle.script_wishes.specs.Holds.{open_holds}
use Rattle.script_wishes.specs.Turns.{Turn, first_numbers, in_round, in_thread, turn_of, thread_turns, round_turns, command_turns, closing_turn, releases, closing, closing_turns, Releases, Ends}
use Rattle.script_plan.specs.Serial.{Run, outcome, with_outcome, played, begun, commands_played, serial_lines, setting}
use Rattle.script_plan.specs.Prints.{TaskLine, with_tasks, places_in, all_places, of_thread, before_round, from_round, PlacedCall, calls_after, history_below, caller_of, callers_after, command_calls, all_turns, AreAnswered, ArePlaced, Prints, AreInOrder, catalog_places_in, all_catalog_places, AreCatalogsPlaced, AreCatalogsInOrder, HaveOneOrder}
use Rattle.script_plan.proofs.LineLists.{filter_all, filter_true, filter_none, all_kept, GoUp, AreBelow, increasing, range_up, up_right, up_below, up_kept, count_once}
use Rattle.script_serial.proofs.SerialLines.{first_places, all_turns_counted, callers_played, played_append, added, played_lines, added_append}
use Rattle.script_serial.proofs.SerialCalls.{calls_from, calls_length, past_is, played_legal, calls_played, with_tasks_first, line_round}
use Rattle.script_serial.proofs.SerialAnswered.{AreByRound, added_rounds, IsOnItsWay, are_answered}
use Rattle.script_plan.proofs.GoingOn.{goes_nowhere}
use Rattle.script_plan.proofs.RoundTurns.{flat_all, AreOf, round_is, rounds_within, closing_round}
use Rattle.script_lines.specs.Catalogs.{Books, catalog_setting}
use Rattle.script_plan.proofs.Orders.{Follow, follow_kept, cut_stands}
use Rattle.script_serial.proofs.SerialOrder.{played_rises, lines_follow}
use Rattle.script_serial.proofs.SerialCatalogs.{played_catalogs_legal, played_catalogs_threads, all_turns_entered}
use Rattle.catalog_handles.specs.Answer.{AreThreads, IsLegal as CatalogLegal}
use Rattle.catalog_handles.specs.Stamps.{IsRising, stamp_at}
use Rattle.catalog_handles.specs.declared.setting.CatalogSetting.{CatalogSetting}
use Rattle.catalog_handles.specs.Entry.{History as CatalogHistory}

-- ---- turns are in order of their rounds

join_rounds : (xs ys : List Turn) → AreByRound xs → AreByRound ys → All (λ (t : Turn). All (λ (u : Turn). t.round ≤ u.round) ys) xs → AreByRound (xs ++ ys)
join_rounds [] ys first second below = second
join_rounds (x ∷ xs) ys first second below =
    let Below : Turn → Type 0 = λ (t : Turn). All (λ (u : Turn). t.round ≤ u.round) ys in
    (All-append (λ (u : Turn). x.round ≤ u.round) xs ys first.0 (All-head Below x xs below), join_rounds xs ys first.1 second (All-tail Below x xs below))

one_round : (round : ℕ) (turns : List Turn) → AreOf round turns → AreByRound turns
one_round round [] of = tt
one_round round (turn ∷ turns) of =
    let here : turn.round ≡ round = All-head (λ (t : Turn). t.round ≡ round) turn turns of in
    let rest : AreOf round turns = All-tail (λ (t : Turn). t.round ≡ round) turn turns of in
    (All-weaker (λ (t : Turn). t.round ≡ round) (λ (u : Turn). turn.round ≤ u.round) (λ u is. omega (arith, here, is)) turns rest, one_round round turns rest)

rounds_by : (threads : ℕ) (ps : List Placed) (from n : ℕ) → AreByRound (flat_map (round_turns threads ps) (range_with_len from n))
rounds_by threads ps from zero = tt
rounds_by threads ps from (suc n) =
    let later : List Turn = flat_map (round_turns threads ps) (range_with_len (from + 1) n) in
    join_rounds (round_turns threads ps from) later (one_round from (round_turns threads ps from) (round_is threads ps from)) (rounds_by threads ps (from + 1) n)
    (All-weaker (λ (t : Turn). t.round ≡ from) (λ (t : Turn). All (λ (u : Turn). t.round ≤ u.round) later)
    (λ t here. All-weaker (λ (u : Turn). (from + 1 ≤ u.round) × (u.round < from + 1 + n)) (λ (u : Turn). t.round ≤ u.round) (λ u is. let low = is.0 in omega (arith, low, here)) later (rounds_within threads ps (from + 1) n))
    (round_turns threads ps from) (round_is threads ps from))

turns_by_round : (b : Bundle) (H : History) → AreByRound (command_turns b ++ closing_turns b H)
turns_by_round b H =
    let last : List Turn = closing_turns b H in
    join_rounds (command_turns b) last (rounds_by (length b.threads) b.commands 1 b.rounds) (one_round (b.rounds + 1) last (closing_round b H))
    (All-weaker (λ (t : Turn). (1 ≤ t.round) × (t.round < 1 + b.rounds)) (λ (t : Turn). All (λ (u : Turn). t.round ≤ u.round) last)
    (λ t is. let high = is.1 in All-weaker (λ (u : Turn). u.round ≡ b.rounds + 1) (λ (u : Turn). t.round ≤ u.round) (λ u at. omega (arith, high, at)) last (closing_round b H))
    (command_turns b) (rounds_within (length b.threads) b.commands 1 b.rounds))

-- ---- the places of lines that are in order of their rounds

abbrev AreLinesByRound : List OutLine → Type 0
AreLinesByRound [] = Unit {0}
AreLinesByRound (l ∷ lines) = All (λ (m : OutLine). l.round ≤ m.round) lines × AreLinesByRound lines

lines_by_round : (c : Setting) (library : LibraryData) (books : Books) (run : Run) (turns : List Turn) → AreByRound turns → AreLinesByRound (added c library books run turns)
lines_by_round c library books run [] by = tt
lines_by_round c library books run (turn ∷ turns) by =
    let next : Run = with_outcome run turn (outcome c library books run turn) in
    (subst (λ (r : ℕ). All (λ (m : OutLine). r ≤ m.round) (added c library books next turns)) (sym (line_round c library books run turn)) (added_rounds c library books turn.round next turns by.0), lines_by_round c library books next turns by.1)

before_here : (round : ℕ) (l : OutLine) (lines : List OutLine) → l.round < round → before_round round (l ∷ lines) ≡ l ∷ before_round round lines
before_here round l lines lt = ap (λ (b : Bool). cond b (l ∷ before_round round lines) (before_round round lines)) (lt-ltb l.round round lt)

from_later : (round : ℕ) (l : OutLine) (lines : List OutLine) → l.round < round → from_round round (l ∷ lines) ≡ from_round round lines
from_later round l lines lt = ap (λ (b : Bool). cond b (l ∷ from_round round lines) (from_round round lines)) (lt-leb round l.round lt)

before_none : (round : ℕ) (l : OutLine) (lines : List OutLine) → round ≤ l.round → All (λ (m : OutLine). l.round ≤ m.round) lines → before_round round (l ∷ lines) ≡ []
before_none round l lines le from =
    filter_none (λ (m : OutLine). nat_lt m.round round) (l ∷ lines)
    (All-cons (λ (m : OutLine). nat_lt m.round round ≡ false) l lines (le-ltb l.round round le)
    (All-weaker (λ (m : OutLine). l.round ≤ m.round) (λ (m : OutLine). nat_lt m.round round ≡ false) (λ m h. le-ltb m.round round (omega (arith, h, le))) lines from))

-- each place of a round is below each of the rounds from another on
rounds_apart : (f : OutLine → List ℕ) (round : ℕ) (lines : List OutLine) → AreLinesByRound lines → GoUp (flat_map f lines) → AreBelow (flat_map f (before_round round lines)) (flat_map f (from_round round lines))
rounds_apart f round [] by up = All-nil (λ (p : ℕ). All (λ (q : ℕ). p < q) [])
rounds_apart f round (l ∷ lines) by up =
    let here : List ℕ = f l in
    let rest : List ℕ = flat_map f lines in
    let later : List ℕ = flat_map f (from_round round lines) in
    let Below : List ℕ → ℕ → Type 0 = λ (qs : List ℕ) (p : ℕ). All (λ (q : ℕ). p < q) qs in
    elim (cases_lt l.round round) [
      | inl lt ↦
          let first : All (Below later) here =
          All-weaker (Below rest) (Below later) (λ p below. all_kept f (λ (q : ℕ). p < q) (λ (m : OutLine). nat_le round m.round) lines below) here (up_below here rest up)
          in
          let both : AreBelow (here ++ flat_map f (before_round round lines)) later =
          All-append (Below later) here (flat_map f (before_round round lines)) first (rounds_apart f round lines by.1 (up_right here rest up))
          in
          subst (λ (ls : List OutLine). AreBelow (flat_map f ls) (flat_map f (from_round round (l ∷ lines)))) (sym (before_here round l lines lt))
          (subst (λ (ls : List OutLine). AreBelow (here ++ flat_map f (before_round round lines)) (flat_map f ls)) (sym (from_later round l lines lt)) both)
      | inr le ↦
          subst (λ (ls : List OutLine). AreBelow (flat_map f ls) (flat_map f (from_round round (l ∷ lines)))) (sym (before_none round l lines le by.0))
          (All-nil (Below (flat_map f (from_round round (l ∷ lines)))))
    ]

-- the places of a line in the history of the table, and its place in that of the catalogs
abbrev at_table : OutLine → List ℕ
at_table l = places_in l.places

abbrev at_catalogs : OutLine → List ℕ
at_catalogs l = catalog_places_in l.places

are_placed : (last n : ℕ) (lines : List OutLine) → AreLinesByRound lines → all_places lines ≡ first_places n → ArePlaced last lines
are_placed last n lines by counted =
    let up : GoUp (all_places lines) = subst GoUp (sym counted) (range_up 0 n) in
    let long : length (all_places lines) ≡ n = ap length counted ∙ length-range_with_len 0 n in
    record {
      once = λ place lt. ap (count_by (λ (p : ℕ). p == place)) counted ∙ count_once place 0 n (omega arith) (omega (arith, lt, long));
      threads = λ thread. increasing (all_places (of_thread thread lines)) (up_kept at_table (λ (l : OutLine). l.thread == thread) lines up);
      rounds = λ round. rounds_apart at_table round lines by up;
      closing = increasing (all_places (from_round (last + 1) lines)) (up_kept at_table (λ (l : OutLine). nat_le (last + 1) l.round) lines up);
    }

are_catalogs_placed : (c : CatalogSetting) (M : CatalogHistory) (lines : List OutLine) → AreLinesByRound lines → all_catalog_places lines ≡ first_places (length M) → CatalogLegal c M → AreThreads c.threads M → AreCatalogsPlaced c M lines
are_catalogs_placed c M lines by entered legal of =
    let n : ℕ = length M in
    let up : GoUp (all_catalog_places lines) = subst GoUp (sym entered) (range_up 0 n) in
    let long : length (all_catalog_places lines) ≡ n = ap length entered ∙ length-range_with_len 0 n in
    record {
      legal = legal;
      callers = of;
      many = long;
      once = λ place lt. ap (count_by (λ (p : ℕ). p == place)) entered ∙ count_once place 0 n (omega arith) (omega (arith, lt, long));
      threads = λ thread. increasing (all_catalog_places (of_thread thread lines)) (up_kept at_catalogs (λ (l : OutLine). l.thread == thread) lines up);
      rounds = λ round. rounds_apart at_catalogs round lines by up;
    }

-- ---- one order of all calls

-- what is before a round, and what is not, are two parts of the lines
round_cut : (round : ℕ) (lines : List OutLine) → AreLinesByRound lines → lines ≡ before_round round lines ++ from_round round lines
round_cut round [] by = refl
round_cut round (l ∷ lines) by =
    elim (cases_lt l.round round) [
      | inl lt ↦
          ap (λ (ls : List OutLine). l ∷ ls) (round_cut round lines by.1)
          ∙ ap (λ (ls : List OutLine). ls ++ from_round round lines) (sym (before_here round l lines lt))
          ∙ ap (λ (ls : List OutLine). before_round round (l ∷ lines) ++ ls) (sym (from_later round l lines lt))
      | inr le ↦
          let Late : OutLine → Type 0 = λ (m : OutLine). nat_le round m.round ≡ true in
          let all : from_round round (l ∷ lines) ≡ l ∷ lines =
          filter_all (λ (m : OutLine). nat_le round m.round) (l ∷ lines)
          (All-cons Late l lines (le-leb round l.round le) (All-weaker (λ (m : OutLine). l.round ≤ m.round) Late (λ m h. le-leb round m.round (omega (arith, h, le))) lines by.0))
          in
          sym all ∙ ap (λ (ls : List OutLine). ls ++ from_round round (l ∷ lines)) (sym (before_none round l lines le by.0))
    ]

have_one_order : (M : CatalogHistory) (high : ℕ) (lines : List OutLine) → IsRising M → AreLinesByRound lines → Follow (stamp_at M) 0 lines high → HaveOneOrder M lines
have_one_order M high lines rising by follow = record {
  rising = rising;
  threads = λ thread before after is. cut_stands (stamp_at M) 0 high (of_thread thread lines) before after (follow_kept (stamp_at M) (λ (l : OutLine). l.thread == thread) 0 high lines follow) is;
  rounds = λ round. cut_stands (stamp_at M) 0 high lines (before_round round lines) (from_round round lines) follow (round_cut round lines by);
}

-- ---- turns are of the threads

abbrev AreOfThreads : ℕ → List Turn → Type 0
AreOfThreads n turns = All (λ (t : Turn). t.thread < n) turns

numbers_below : (from n : ℕ) → All (λ (t : ℕ). t < from + n) (range_with_len from n)
numbers_below from zero = All-nil (λ (t : ℕ). t < from + 0)
numbers_below from (suc n) =
    All-cons (λ (t : ℕ). t < from + suc n) from (range_with_len (from + 1) n) (omega arith)
    (All-weaker (λ (t : ℕ). t < from + 1 + n) (λ (t : ℕ). t < from + suc n) (λ t lt. omega (arith, lt)) (range_with_len (from + 1) n) (numbers_below (from + 1) n))

flat_of : {X A : Type 0} (P : A → Type 0) (Q : X → Type 0) (f : X → List A) (xs : List X) → All Q xs → ((x : X) → Q x → All P (f x)) → All P (flat_map f xs)
flat_of P Q f [] all each = All-nil P
flat_of P Q f (x ∷ xs) all each = All-append P (f x) (flat_map f xs) (each x (All-head Q x xs all)) (flat_of P Q f xs (All-tail Q x xs all) each)

thread_is : (ps : List Placed) (thread : ℕ) → All (λ (t : Turn). t.thread ≡ thread) (thread_turns ps thread)
thread_is ps thread =
    All-map (λ (t : Turn). t.thread ≡ thread) turn_of (in_thread ps thread)
    (All-weaker (λ (p : Placed). (p.thread == thread) ≡ true) (λ (p : Placed). p.thread ≡ thread) (λ p is. eqb-true p.thread thread is) (in_thread ps thread)
    (filter_true (λ (p : Placed). p.thread == thread) ps))

threads_below : (n : ℕ) (f : ℕ → List Turn) → ((thread : ℕ) → All (λ (t : Turn). t.thread ≡ thread) (f thread)) → AreOfThreads n (flat_map f (first_numbers n))
threads_below n f each =
    flat_of (λ (t : Turn). t.thread < n) (λ (t : ℕ). t < n) f (first_numbers n)
    (All-weaker (λ (t : ℕ). t < 0 + n) (λ (t : ℕ). t < n) (λ t lt. omega (arith, lt)) (first_numbers n) (numbers_below 0 n)) (λ thread lt.
    All-weaker (λ (t : Turn). t.thread ≡ thread) (λ (t : Turn). t.thread < n) (λ t is. omega (arith, is, lt)) (f thread) (each thread))

closing_thread : (round thread : ℕ) (holds : List OpenHold) → All (λ (t : Turn). t.thread ≡ thread) (closing round thread holds)
closing_thread round thread holds =
    All-append (λ (t : Turn). t.thread ≡ thread) (releases round thread holds) (closing_turn round thread Ends ∷ [])
    (All-map (λ (t : Turn). t.thread ≡ thread) (λ (o : OpenHold). closing_turn round thread (Releases o.handle)) holds (λ k d l. refl))
    (All-cons (λ (t : Turn). t.thread ≡ thread) (closing_turn round thread Ends) [] refl (All-nil (λ (t : Turn). t.thread ≡ thread)))

turns_of_threads : (b : Bundle) (H : History) → AreOfThreads (length b.threads) (command_turns b ++ closing_turns b H)
turns_of_threads b H =
    let n : ℕ = length b.threads in
    All-append (λ (t : Turn). t.thread < n) (command_turns b) (closing_turns b H)
    (flat_all (λ (t : Turn). t.thread < n) (round_turns n b.commands) (range_with_len 1 b.rounds) (λ round. threads_below n (thread_turns (in_round round b.commands)) (thread_is (in_round round b.commands))))
    (threads_below n (λ (t : ℕ). closing (b.rounds + 1) t (open_holds H t)) (λ t. closing_thread (b.rounds + 1) t (open_holds H t)))

-- ---- all of it

module _ (rows generations : ℕ) (plan : PlanData) where
  abbrev pub c : Setting
  c = setting plan rows generations

  -- the history of the commands, all turns, and the lines that they add
  abbrev pub commanded : History
  commanded = (commands_played c plan).history

  abbrev pub turns : List Turn
  turns = command_turns plan.bundle ++ closing_turns plan.bundle commanded

  abbrev pub lines : List OutLine
  lines = added c plan.library (books_of plan) begun turns

  abbrev pub whole : History
  whole = (played c plan.library (books_of plan) begun turns).history

  abbrev pub catalogs : CatalogHistory
  catalogs = (played c plan.library (books_of plan) begun turns).catalogs

  pub serial_is : serial_lines rows generations plan ≡ lines
  serial_is =
      ap (λ (run : Run). run.lines) (sym (played_append c plan.library (books_of plan) begun (command_turns plan.bundle) (closing_turns plan.bundle commanded)))
      ∙ played_lines c plan.library (books_of plan) begun turns

  -- the history of the commands is that of the calls of their lines
  pub turns_are : all_turns c plan lines ≡ turns
  turns_are =
      let commands : List Turn = command_turns plan.bundle in
      let first : List OutLine = added c plan.library (books_of plan) begun commands in
      let rest : List OutLine = added c plan.library (books_of plan) (commands_played c plan) (closing_turns plan.bundle commanded) in
      let split : lines ≡ first ++ rest = added_append c plan.library (books_of plan) begun commands (closing_turns plan.bundle commanded) in
      let calls : command_calls plan lines ≡ calls_from commanded =
      ap (λ (ls : List OutLine). calls_after plan.library [] (with_tasks commands ls)) split
      ∙ ap (calls_after plan.library []) (with_tasks_first c plan.library (books_of plan) begun commands rest)
      ∙ calls_played c plan.library (books_of plan) begun [] commands refl
      in
      let legal = played_legal c plan.library (books_of plan) begun commands tt in
      let past : history_below c (command_calls plan lines) (length (command_calls plan lines)) ≡ commanded =
      ap (λ (cs : List PlacedCall). history_below c cs (length cs)) calls
      ∙ ap (history_below c (calls_from commanded)) (calls_length commanded)
      ∙ past_is c commanded commanded legal (goes_nowhere commanded)
      in
      ap (λ (H : History). commands ++ closing_turns plan.bundle H) past

  callers_are : map caller_of lines ≡ callers_after [] (all_turns c plan lines)
  callers_are =
      ap (map caller_of) (sym (played_lines c plan.library (books_of plan) begun turns))
      ∙ callers_played c plan.library (books_of plan) begun turns
      ∙ ap (callers_after []) (sym turns_are)

  pub places_are : all_places lines ≡ first_places (length whole)
  places_are = ap all_places (sym (played_lines c plan.library (books_of plan) begun turns)) ∙ all_turns_counted c plan.library (books_of plan) begun turns refl

  pub catalog_places_are : all_catalog_places lines ≡ first_places (length catalogs)
  catalog_places_are = ap all_catalog_places (sym (played_lines c plan.library (books_of plan) begun turns)) ∙ all_turns_entered c plan.library (books_of plan) begun turns refl

  begins : IsOnItsWay c plan lines whole catalogs begun [] turns
  begins = record {
    legal = played_legal c plan.library (books_of plan) begun turns tt;
    final = refl;
    catalogs = refl;
    lines = refl;
    bounds = refl;
    next = λ t. refl;
    counted = refl;
    by_round = turns_by_round plan.bundle commanded;
    earlier = All-nil (λ (l : OutLine). All (λ (u : Turn). l.round ≤ u.round) turns);
    printed = All-nil (λ (v : ℕ). v ≤ 0);
    printed_before = All-nil (λ (v : ℕ). v ≤ 0);
  }

  all_answered : let ds = with_tasks turns lines in AreAnswered c plan lines catalogs (calls_after plan.library [] ds) [] ds
  all_answered =
      let ds : List TaskLine = with_tasks turns lines in
      let calls : calls_after plan.library [] ds ≡ calls_from whole = calls_played c plan.library (books_of plan) begun [] turns refl in
      subst (λ (cs : List PlacedCall). AreAnswered c plan lines catalogs cs [] ds) (sym calls) (are_answered c plan lines whole catalogs begun [] turns begins)

  prints : Prints c plan lines
  prints = record {
    catalogs = catalogs;
    callers = callers_are;
    catalogs_placed = are_catalogs_placed (catalog_setting c) catalogs lines (lines_by_round c plan.library (books_of plan) begun turns (turns_by_round plan.bundle commanded)) catalog_places_are
        (played_catalogs_legal c plan.library (books_of plan) begun turns tt) (played_catalogs_threads (length plan.bundle.threads) c plan.library (books_of plan) begun turns (turns_of_threads plan.bundle commanded) tt);
    one_order = have_one_order catalogs (length whole) lines (played_rises c plan.library (books_of plan) begun turns tt (omega arith)) (lines_by_round c plan.library (books_of plan) begun turns (turns_by_round plan.bundle commanded))
        (lines_follow c plan.library (books_of plan) begun turns);
    placed = are_placed plan.bundle.rounds (length whole) lines (lines_by_round c plan.library (books_of plan) begun turns (turns_by_round plan.bundle commanded)) places_are;
    answered = subst (λ (ts : List Turn). let ds = with_tasks ts lines in AreAnswered c plan lines catalogs (calls_after plan.library [] ds) [] ds) (sym turns_are) all_answered;
  }

  -- serial prints what a script may print
  pub serial_prints : Prints c plan (serial_lines rows generations plan)
  serial_prints = subst (Prints c plan) (sym serial_is) prints

  -- and its places go up from line to line
  pub serial_in_order : AreInOrder (serial_lines rows generations plan)
  serial_in_order = increasing (all_places (serial_lines rows generations plan)) (subst GoUp (sym (ap all_places serial_is ∙ places_are)) (range_up 0 (length whole)))

  -- in both histories
  pub serial_catalogs_in_order : AreCatalogsInOrder (serial_lines rows generations plan)
  serial_catalogs_in_order =
      increasing (all_catalog_places (serial_lines rows generations plan)) (subst GoUp (sym (ap all_catalog_places serial_is ∙ catalog_places_are)) (range_up 0 (length catalogs)))
