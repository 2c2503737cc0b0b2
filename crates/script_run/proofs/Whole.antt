-- Lines of threads that call concurrently are lines that a script may print.
use Rattle.std.proofs.Common.{◌≡◌, ℕ, ◌+◌, ◌<◌, ◌≤◌, Bool, true, false, cond, List, [], ◌∷◌, ◌++◌, length, map, reverse, refl, sym, ap, subst, ◌∙◌, arith, append-nil}
use Rattle.std.specs.Prelude.{◌==◌, filter, count_by, All}
use Rattle.std.proofs.lemmas.Bool.{eq-eqb}
use Rattle.std.proofs.lemmas.Grind.{flat_map-append}
use Rattle.std.proofs.lemmas.List.{map-append, reverse-append, reverse-reverse}
use Rattle.std.proofs.lemmas.List.Elements.{All-nil, All-cons, All-head, All-tail, All-weaker, filter-append}
use Rattle.std.proofs.lemmas.List.Sums.{sum_by-cons, sum_by-append}
use Rattle.handle_table.specs.Entry.{History, Setting}
use Rattle.catalog_handles.specs.Entry.{History as CatalogHistory}
use Rattle.script_lines.specs.Catalogs.{catalog_setting}
use Rattle.script_out.specs.declared.output.OutLine.{OutLine}
use Rattle.script_lines.specs.Lines.{Caller}
use Rattle.script_wishes.specs.Turns.{Turn, command_turns, closing_turns}
use Rattle.script_plan.specs.Plan.{PlanData}
use Rattle.script_plan.specs.Prints.{TaskLine, with_tasks, PlacedCall, places_in, calls_after, history_below, caller_of, index_after, caller_after, callers_after, command_calls, all_turns, IsAnswered, AreAnswered, Prints}
use Rattle.script_plan.proofs.LineLists.{all_right}
use Rattle.script_plan.proofs.RoundTurns.{rounds_within, closing_round}
use Rattle.script_run.specs.Timed.{oldest, places_by, Timed, AreTimed, lines_in, task_lines, turn_made, turns_made, placed_back, own_lines, AreRight, IsRight, IsWhole, AreAsked, HasStanding}
use Rattle.script_run.proofs.Before.{IsBetween, is_between}
use Rattle.script_run.proofs.Counted.{all_reversed}
use Rattle.script_run.proofs.Ordering.{one_order}
use Rattle.script_run.proofs.Placed.{placed, all_span, each_goes_down}
use Rattle.script_run.proofs.History.{calls_back, right_back, pasts_are, whole_is}
use Rattle.script_run.proofs.LineAnswered.{line_answered}
use Rattle.script_run.proofs.AskedPlaces.{IsClosingTask, closing_tasks, all_standing, catalogs_placed, asked_with}
use Rattle.script_run.proofs.Versions.{right_part, back_one, StandsAmong, around_it, right_here, version_is}

-- ---- lists that stand the other way

pub reverse_map : {X Y : Type 0} (f : X → Y) (xs : List X) → reverse (map f xs) ≡ map f (reverse xs)
reverse_map f [] = refl
reverse_map f (x ∷ xs) =
    reverse-append (f x ∷ []) (map f xs)
    ∙ ap (λ (ys : List _). ys ++ f x ∷ []) (reverse_map f xs)
    ∙ sym (map-append f (reverse xs) (x ∷ []))
    ∙ ap (map f) (sym (reverse-append (x ∷ []) xs))

unmapped : {X Y : Type 0} (P : Y → Type 0) (f : X → Y) (xs : List X) → All P (map f xs) → All (λ (x : X). P (f x)) xs
unmapped P f [] h = All-nil (λ x. P (f x))
unmapped P f (x ∷ xs) h = All-cons (λ y. P (f y)) x xs (All-head P (f x) (map f xs) h) (unmapped P f xs (All-tail P (f x) (map f xs) h))

abbrev line_in : Timed → OutLine
line_in t = t.task_line.line

-- the tasks of turns go with the lines that they made
with_tasks_made : (us : List Timed) (more : List OutLine) → with_tasks (turns_made us) (lines_in us ++ more) ≡ task_lines us
with_tasks_made [] more = refl
with_tasks_made (u ∷ us) more = ap (λ (ds : List TaskLine). u.task_line ∷ ds) (with_tasks_made us more)

turns_back : (ts : List Timed) (turns : List Turn) → turns_made ts ≡ reverse turns → turns ≡ turns_made (reverse ts)
turns_back ts turns is = sym (reverse-reverse turns) ∙ ap reverse (sym is) ∙ reverse_map turn_made ts

-- ---- whose the lines are

one_counted : (b : Bool) (d : TaskLine) (rest : List TaskLine) (n : ℕ) → n ≡ length rest → n + (cond b 1 0 + 0) ≡ length (cond b (d ∷ rest) rest)
one_counted true d rest n is = omega (arith, is)
one_counted false d rest n is = omega (arith, is)

abbrev AreCounted : List Caller → List Timed → Type 0
AreCounted before older = (thread : ℕ) → count_by (λ (at : Caller). at.thread == thread) before ≡ length (filter (λ (d : TaskLine). d.line.thread == thread) (task_lines older))

count_next : (thread : ℕ) (before : List Caller) (at : Caller) (n : ℕ) → count_by (λ (a : Caller). a.thread == thread) before ≡ n → count_by (λ (a : Caller). a.thread == thread) (before ++ at ∷ []) ≡ n + (cond (at.thread == thread) 1 0 + 0)
count_next thread before at n is =
    let bit : Caller → ℕ = λ (a : Caller). cond (a.thread == thread) 1 0 in
    sum_by-append bit before (at ∷ []) ∙ ap (λ (m : ℕ). m + count_by (λ (a : Caller). a.thread == thread) (at ∷ [])) is ∙ ap (λ (m : ℕ). n + m) (sum_by-cons bit at [])

callers_made : (c : Setting) (plan : PlanData) (W : History) (before : List Caller) (older after : List Timed) → AreRight c plan W (reverse after ++ older) → AreCounted before older
    → map caller_of (lines_in after) ≡ callers_after before (turns_made after)
callers_made c plan W before older [] right counted = refl
callers_made c plan W before older (u ∷ after) right counted =
    let right' : AreRight c plan W (reverse after ++ u ∷ older) = subst (AreRight c plan W) (back_one u after older) right in
    let here : IsRight c plan W (task_lines older) u = (right_part c plan W (reverse after) (u ∷ older) right').0 in
    let l : OutLine = u.task_line.line in
    let next : Caller = caller_after before (turn_made u) in
    let index : l.index ≡ index_after before l.thread = here.index ∙ ap (λ (n : ℕ). n + 1) (sym (counted l.thread)) in
    let whose : caller_of l ≡ next = ap (λ (n : ℕ). record { round = l.round; thread = l.thread; index = n }) index in
    ap (λ (at : Caller). at ∷ map caller_of (lines_in after)) whose
    ∙ ap (λ (ats : List Caller). next ∷ ats) (callers_made c plan W (before ++ next ∷ []) (u ∷ older) after right'
    (λ thread.
    let older_own : List TaskLine = filter (λ (d : TaskLine). d.line.thread == thread) (task_lines older) in
    count_next thread before next (length older_own) (counted thread) ∙ one_counted (l.thread == thread) u.task_line older_own (length older_own) refl))

-- ---- what they print

module _ (c : Setting) (plan : PlanData) (W : History) (ts : List Timed) (w : IsWhole c plan W ts) (calls : List PlacedCall) (pasts : (n : ℕ) → history_below c calls n ≡ oldest n W) (whole : history_below c calls (length calls) ≡ W) (V : CatalogHistory) (standing : All (HasStanding (catalog_setting c) V) ts) where
  -- a read between has no call of its thread between its two
  between_here : (older after : List Timed) (t : Timed) → StandsAmong ts older t after → (hold release : ℕ) → places_in t.task_line.line.places ≡ hold ∷ release ∷ [] → IsBetween t.task_line.line.thread W hold release
  between_here older after t among hold release at =
      let thread : ℕ = t.task_line.line.thread in
      let Own : Timed → Bool = λ (u : Timed). u.task_line.line.thread == thread in
      let Below : Timed → Type 0 = λ (u : Timed). u.task_line.line.thread < c.threads in
      let within : thread < c.threads = All-head Below t older (all_right Below (reverse after) (t ∷ older) (subst (All Below) among.split w.threads)) in
      let A : List ℕ = placed_back (own_lines thread (reverse after)) in
      let B : List ℕ = placed_back (own_lines thread older) in
      let mine : own_lines thread (t ∷ older) ≡ t ∷ own_lines thread older = ap (λ (b : Bool). cond b (t ∷ own_lines thread older) (own_lines thread older)) (eq-eqb thread thread refl) in
      let places : places_by thread W ≡ A ++ release ∷ hold ∷ B =
      w.places thread within
      ∙ ap (λ (us : List Timed). placed_back (own_lines thread us)) among.split
      ∙ ap placed_back (filter-append Own (reverse after) (t ∷ older))
      ∙ flat_map-append (λ (u : Timed). reverse (places_in u.task_line.line.places)) (own_lines thread (reverse after)) (own_lines thread (t ∷ older))
      ∙ ap (λ (us : List Timed). A ++ placed_back us) mine
      ∙ ap (λ (ps : List ℕ). A ++ (reverse ps ++ B)) at
      in
      is_between thread W A B hold release places

  standing_here : (older after : List Timed) (t : Timed) → StandsAmong ts older t after → HasStanding (catalog_setting c) V t
  standing_here older after t among =
      let Stands : Timed → Type 0 = HasStanding (catalog_setting c) V in
      All-head Stands t older (all_right Stands (reverse after) (t ∷ older) (subst (All Stands) among.split standing))

  answered_here : (older after : List Timed) (t : Timed) → StandsAmong ts older t after → IsAnswered (around_it c plan W ts w calls pasts V older after) t.task_line
  answered_here older after t among =
      line_answered (around_it c plan W ts w calls pasts V older after) W t
      (record {
        pasts = pasts;
        whole = whole;
        version = version_is c plan W ts w calls pasts V older after t among;
        between = between_here older after t among;
        standing = standing_here older after t among;
      })
      (right_here c plan W ts w calls pasts V older after t among).0

  pub are_answered : (older after : List Timed) → ts ≡ reverse after ++ older → AreAnswered c plan (reverse (lines_in ts)) V calls (task_lines older) (task_lines after)
  are_answered older [] split = tt
  are_answered older (t ∷ after) split =
      let next : ts ≡ reverse after ++ t ∷ older = split ∙ back_one t after older in
      (answered_here older after t (record { split = next }), are_answered (t ∷ older) after next)

-- ---- all of it

-- the lines of the commands are right for one history, and all lines for a whole one; closing lines stand last, in order of their places
module _ (c : Setting) (plan : PlanData) (M W : History) (closing made : List Timed) (commanded : IsWhole c plan M made) (commands : turns_made made ≡ reverse (command_turns plan.bundle))
    (w : IsWhole c plan W (closing ++ made)) (closings : turns_made closing ≡ reverse (closing_turns plan.bundle M)) (timed : AreTimed closing) (V : CatalogHistory) (asked : AreAsked (catalog_setting c) V made) where
  abbrev all : List Timed
  all = closing ++ made

  abbrev lines : List OutLine
  lines = reverse (lines_in all)

  command_lines : lines ≡ lines_in (reverse made) ++ lines_in (reverse closing)
  command_lines = reverse_map line_in all ∙ ap lines_in (reverse-append closing made) ∙ map-append line_in (reverse made) (reverse closing)

  calls_of_commands : command_calls plan lines ≡ calls_back plan made
  calls_of_commands =
      ap (λ (ls : List OutLine). calls_after plan.library [] (with_tasks (command_turns plan.bundle) ls)) command_lines
      ∙ ap (λ (turns : List Turn). calls_after plan.library [] (with_tasks turns (lines_in (reverse made) ++ lines_in (reverse closing)))) (turns_back made (command_turns plan.bundle) commands)
      ∙ ap (calls_after plan.library []) (with_tasks_made (reverse made) (lines_in (reverse closing)))

  turns_are : all_turns c plan lines ≡ turns_made (reverse all)
  turns_are =
      ap (λ (calls : List PlacedCall). command_turns plan.bundle ++ closing_turns plan.bundle (history_below c calls (length calls))) calls_of_commands
      ∙ ap (λ (H : History). command_turns plan.bundle ++ closing_turns plan.bundle H) (whole_is c plan M made commanded)
      ∙ ap (λ (turns : List Turn). turns ++ closing_turns plan.bundle M) (turns_back made (command_turns plan.bundle) commands)
      ∙ ap (λ (turns : List Turn). turns_made (reverse made) ++ turns) (turns_back closing (closing_turns plan.bundle M) closings)
      ∙ sym (map-append turn_made (reverse made) (reverse closing))
      ∙ ap turns_made (sym (reverse-append closing made))

  task_lines_are : with_tasks (all_turns c plan lines) lines ≡ task_lines (reverse all)
  task_lines_are =
      ap (λ (turns : List Turn). with_tasks turns lines) turns_are
      ∙ ap (with_tasks (turns_made (reverse all))) (reverse_map line_in all ∙ sym (append-nil (lines_in (reverse all))))
      ∙ with_tasks_made (reverse all) []

  callers_are : map caller_of lines ≡ callers_after [] (all_turns c plan lines)
  callers_are =
      ap (map caller_of) (reverse_map line_in all)
      ∙ callers_made c plan W [] [] (reverse all) (right_back c plan W all w) (λ thread. refl)
      ∙ ap (callers_after []) (sym turns_are)

  closers : All (λ (t : Timed). IsClosingTask t.task_line.task) closing
  closers =
      let Closer : Turn → Type 0 = λ (t : Turn). IsClosingTask t.task in
      unmapped Closer turn_made closing (subst (All Closer) (sym closings) (all_reversed Closer (closing_turns plan.bundle M) (closing_tasks plan.bundle M)))

  all_answered : AreAnswered c plan lines V (calls_back plan all) [] (task_lines (reverse all))
  all_answered =
      are_answered c plan W all w (calls_back plan all) (pasts_are c plan W all w) (whole_is c plan W all w) V (all_standing c plan W V closing made w.right closers asked.standing) [] (reverse all)
      (sym (append-nil (reverse (reverse all)) ∙ reverse-reverse all))

  rounds_of_commands : All (λ (t : Timed). t.task_line.line.round ≤ plan.bundle.rounds) made
  rounds_of_commands =
      let UpTo : Turn → Type 0 = λ (t : Turn). t.round ≤ plan.bundle.rounds in
      let turns : List Turn = command_turns plan.bundle in
      unmapped UpTo turn_made made (subst (All UpTo) (sym commands) (all_reversed UpTo turns
      (All-weaker (λ (t : Turn). (1 ≤ t.round) × (t.round < 1 + plan.bundle.rounds)) UpTo (λ t is. let high = is.1 in omega (arith, high)) turns (rounds_within (length plan.bundle.threads) plan.bundle.commands 1 plan.bundle.rounds))))

  rounds_of_closing : All (λ (t : Timed). t.task_line.line.round ≡ plan.bundle.rounds + 1) closing
  rounds_of_closing =
      let Last : Turn → Type 0 = λ (t : Turn). t.round ≡ plan.bundle.rounds + 1 in
      unmapped Last turn_made closing (subst (All Last) (sym closings) (all_reversed Last (closing_turns plan.bundle M) (closing_round plan.bundle M)))

  -- a script may print them
  pub prints : Prints c plan (reverse (lines_in (closing ++ made)))
  prints = record {
    catalogs = V;
    callers = callers_are;
    catalogs_placed = catalogs_placed c plan W V closing made w closers asked;
    one_order = one_order c plan W V all w (asked_with c plan W V closing made w.right closers asked) (all_span c plan W all w.right (each_goes_down c plan W all w));
    placed = placed c plan W closing made plan.bundle.rounds w rounds_of_commands rounds_of_closing timed;
    answered = subst (λ (ds : List TaskLine). AreAnswered c plan lines V (calls_after plan.library [] ds) [] ds) (sym task_lines_are) all_answered;
  }
