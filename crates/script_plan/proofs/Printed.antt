-- All lists of lines of a script whose threads keep to themselves are one, but for places.
use Rattle.std.proofs.Common.{◌≡◌, ℕ, ◌+◌, ◌<◌, ◌≤◌, Bool, true, false, cond, List, [], ◌∷◌, ◌++◌, length, map, drop, get_or, refl, sym, ap, subst, ◌∙◌, arith, append-nil, Result}
use Rattle.std.specs.Prelude.{◌==◌, zip, All}
use Rattle.std.specs.List.{range_with_len}
use Rattle.std.proofs.lemmas.List.{map-append}
use Rattle.std.proofs.lemmas.List.Elements.{All-nil, All-cons, All-head, All-tail, All-append, All-map, All-filter, filter-append}
use Rattle.std.proofs.lemmas.List.Kept.{AllPairs-from_increasing}
use Rattle.handle_table.specs.Entry as table
use Rattle.handle_table.specs.Entry.{History, Setting}
use Rattle.script_commands.specs.declared.command.Placed.{Placed}
use Rattle.script_lang.specs.declared.bundle.Bundle.{Bundle}
use Rattle.script_wishes.specs.Holds.{open_holds}
use Rattle.script_wishes.specs.Turns.{Turn, Ends, first_numbers, in_round, in_thread, turn_of, thread_turns, round_turns, command_turns, closing, closing_turns}
use Rattle.script_wishes.specs.Variables.{bindings_of, variable_bound}
use Rattle.script_wishes.specs.Wishes.{Wish, wish_of, ops_of}
use Rattle.script_lines.specs.Lines.{Caller}
use Rattle.script_out.specs.declared.output.OutLine.{OutLine}
use Rattle.script_out.specs.declared.output.Why.{Why}
use Rattle.script_plan.specs.Plan.{PlanData}
use Rattle.script_plan.specs.Isolation.{all_task_lines, all_calls}
use Rattle.script_plan.specs.Prints.{TaskLine, with_tasks, bound_by, places_in, all_places, of_thread, PlacedCall, call_of, calls_of, calls_after, history_below, around, lines_of, AreAnswered, caller_of, caller_after, callers_after, command_calls, all_turns, Prints}
use Rattle.script_plan.proofs.LineLists.{GoUp}
use Rattle.script_plan.proofs.PlacedCalls.{place_of, AreOnce, places_of_calls}
use Rattle.script_plan.specs.Private.{keeps_to_itself, all_keep_to_themselves, placeless}
use Rattle.script_plan.proofs.Lists.{each, each_flat, same_flat, all_pass, calls_by, rise_from, goes_up}
use Rattle.script_plan.proofs.Parts.{IsPrivateCall, no_holds, private_below}
use Rattle.script_plan.proofs.Wishes.{IsOwnBound, IsOwnWish, keeps, task_own, own_next, private_calls, line_places}
use Rattle.script_plan.proofs.Alone.{Histories, Asked, asked, lines_alone, Stands, all_alone}
use Rattle.catalog_handles.specs.Entry.{History as CatalogHistory}

-- ---- the tasks of a script

abbrev Keeps : Turn → Type 0
Keeps turn = keeps turn.task ≡ true

abbrev KeepsTaskLine : TaskLine → Type 0
KeepsTaskLine d = keeps d.task ≡ true

abbrev KeepsPlaced : Placed → Type 0
KeepsPlaced p = keeps_to_itself p.command ≡ true

commands_keep : (bundle : Bundle) → all_keep_to_themselves bundle ≡ true → All Keeps (command_turns bundle)
commands_keep bundle keep =
    let all : All KeepsPlaced bundle.commands = all_pass (λ (p : Placed). keeps_to_itself p.command) bundle.commands keep in
    each_flat Keeps (round_turns (length bundle.threads) bundle.commands) (range_with_len 1 bundle.rounds) (λ round.
    let here : List Placed = in_round round bundle.commands in
    each_flat Keeps (thread_turns here) (first_numbers (length bundle.threads)) (λ thread.
    All-map Keeps turn_of (in_thread here thread)
    (All-filter (λ (p : Placed). p.thread == thread) KeepsPlaced here (All-filter (λ (p : Placed). p.round == round) KeepsPlaced bundle.commands all))))

-- the turns of a script without open holds: those of its commands, and one end for each thread
abbrev quiet_turns : PlanData → List Turn
quiet_turns plan = command_turns plan.bundle ++ closing_turns plan.bundle []

quiet_keep : (plan : PlanData) → all_keep_to_themselves plan.bundle ≡ true → All Keeps (quiet_turns plan)
quiet_keep plan keep =
    All-append Keeps (command_turns plan.bundle) (closing_turns plan.bundle []) (commands_keep plan.bundle keep)
    (each_flat Keeps (λ (t : ℕ). closing (plan.bundle.rounds + 1) t (open_holds [] t)) (first_numbers (length plan.bundle.threads)) (λ t.
    All-cons Keeps (record { round = plan.bundle.rounds + 1; thread = t; task = Ends }) [] refl (All-nil Keeps)))

with_tasks_keep : (turns : List Turn) (lines : List OutLine) → All Keeps turns → All KeepsTaskLine (with_tasks turns lines)
with_tasks_keep [] lines keep = All-nil KeepsTaskLine
with_tasks_keep (turn ∷ turns) [] keep = All-nil KeepsTaskLine
with_tasks_keep (turn ∷ turns) (l ∷ lines) keep =
    All-cons KeepsTaskLine (record { task = turn.task; line = l }) (with_tasks turns lines) (All-head Keeps turn turns keep) (with_tasks_keep turns lines (All-tail Keeps turn turns keep))

with_tasks_append : (xs ys : List Turn) (lines : List OutLine) → with_tasks (xs ++ ys) lines ≡ with_tasks xs lines ++ with_tasks ys (drop (length xs) lines)
with_tasks_append [] ys lines = refl
with_tasks_append (x ∷ xs) [] [] = refl
with_tasks_append (x ∷ xs) (y ∷ ys) [] = refl
with_tasks_append (x ∷ xs) ys (l ∷ lines) = ap (λ (ds : List TaskLine). record { task = x.task; line = l } ∷ ds) (with_tasks_append xs ys lines)

-- ---- all calls are private

calls_private : (c : Setting) (plan : PlanData) (lines : List OutLine) (M : CatalogHistory) (calls : List PlacedCall) (before first rest : List TaskLine) → AreAnswered c plan lines M calls before (first ++ rest) → All KeepsTaskLine first → All IsOwnBound (bound_by before)
    → All IsPrivateCall (calls_after plan.library before first)
calls_private c plan lines M calls before [] rest are_answered keep own = All-nil IsPrivateCall
calls_private c plan lines M calls before (d ∷ first) rest are_answered keep own =
    let t : ℕ = d.line.thread in
    let x = around c plan lines M calls before (first ++ rest) in
    let w : Result Wish Why = wish_of plan.library (bindings_of t (bound_by before)) d.task in
    let wished : IsOwnWish t (variable_bound d.task) w = task_own plan.library t (bound_by before) d.task own (All-head KeepsTaskLine d first keep) in
    All-append IsPrivateCall (calls_of plan.library (bound_by before) d) (calls_after plan.library (d ∷ before) first)
    (private_calls t (variable_bound d.task) (places_in d.line.places) w wished)
    (calls_private c plan lines M calls (d ∷ before) first rest are_answered.1 (All-tail KeepsTaskLine d first keep)
    (own_next x (caller_of d.line) d.line (bound_by before) (variable_bound d.task) w are_answered.0 wished own))

-- so no hold is open when the commands are done
turns_are : (c : Setting) (plan : PlanData) (lines : List OutLine) → all_keep_to_themselves plan.bundle ≡ true → Prints c plan lines → all_turns c plan lines ≡ quiet_turns plan
turns_are c plan lines keep w =
    let calls : List PlacedCall = command_calls plan lines in
    let H : History = history_below c calls (length calls) in
    let commands : List Turn = command_turns plan.bundle in
    let more : List TaskLine = with_tasks (closing_turns plan.bundle H) (drop (length commands) lines) in
    let private : All IsPrivateCall calls =
    calls_private c plan lines w.catalogs (all_calls c plan lines) [] (with_tasks commands lines) more
    (subst (AreAnswered c plan lines w.catalogs (all_calls c plan lines) []) (with_tasks_append commands (closing_turns plan.bundle H) lines) w.answered)
    (with_tasks_keep commands lines (commands_keep plan.bundle keep)) (All-nil IsOwnBound)
    in
    ap (λ (turns : List Turn). commands ++ turns)
    (same_flat (λ (t : ℕ). closing (plan.bundle.rounds + 1) t (open_holds H t)) (λ (t : ℕ). closing (plan.bundle.rounds + 1) t (open_holds [] t)) (first_numbers (length plan.bundle.threads)) (λ t.
    ap (closing (plan.bundle.rounds + 1) t) (no_holds H t (private_below c calls private (length calls)))))

-- ---- the calls of each thread rise

by_thread_if : (t w : ℕ) (b : Bool) (zs : List (ℕ × table.Op)) → (w == t) ≡ b → calls_by t (map (call_of w) zs) ≡ cond b (map (call_of w) zs) []
by_thread_if t w true [] is = refl
by_thread_if t w false [] is = refl
by_thread_if t w true (z ∷ zs) is =
    ap (λ (b : Bool). cond b (call_of w z ∷ calls_by t (map (call_of w) zs)) (calls_by t (map (call_of w) zs))) is ∙ ap (λ (ks : List PlacedCall). call_of w z ∷ ks) (by_thread_if t w true zs is)
by_thread_if t w false (z ∷ zs) is =
    ap (λ (b : Bool). cond b (call_of w z ∷ calls_by t (map (call_of w) zs)) (calls_by t (map (call_of w) zs))) is ∙ by_thread_if t w false zs is

with_line : (here others : List PlacedCall) (l : OutLine) (lines : List OutLine) (b : Bool) → map place_of here ≡ places_in l.places → map place_of others ≡ all_places lines
    → map place_of (cond b here [] ++ others) ≡ all_places (cond b (l ∷ lines) lines)
with_line here others l lines true first rest =
    map-append place_of here others ∙ ap (λ (ps : List ℕ). ps ++ map place_of others) first ∙ ap (λ (ps : List ℕ). places_in l.places ++ ps) rest
with_line here others l lines false first rest = rest

places_by_thread : (c : Setting) (plan : PlanData) (lines : List OutLine) (M : CatalogHistory) (calls : List PlacedCall) (t : ℕ) (before after : List TaskLine) → AreAnswered c plan lines M calls before after → All KeepsTaskLine after → All IsOwnBound (bound_by before)
    → map place_of (calls_by t (calls_after plan.library before after)) ≡ all_places (of_thread t (lines_of after))
places_by_thread c plan lines M calls t before [] are_answered keep own = refl
places_by_thread c plan lines M calls t before (d ∷ after) are_answered keep own =
    let s : ℕ = d.line.thread in
    let x = around c plan lines M calls before after in
    let w : Result Wish Why = wish_of plan.library (bindings_of s (bound_by before)) d.task in
    let wished : IsOwnWish s (variable_bound d.task) w = task_own plan.library s (bound_by before) d.task own (All-head KeepsTaskLine d after keep) in
    let here : List PlacedCall = calls_of plan.library (bound_by before) d in
    let rest : List PlacedCall = calls_after plan.library (d ∷ before) after in
    ap (map place_of) (filter-append (λ (call : PlacedCall). call.thread == t) here rest)
    ∙ ap (λ (ks : List PlacedCall). map place_of (ks ++ calls_by t rest)) (by_thread_if t s (s == t) (zip (places_in d.line.places) (ops_of w)) refl)
    ∙ with_line here (calls_by t rest) d.line (of_thread t (lines_of after)) (s == t) (line_places x (caller_of d.line) d.line (variable_bound d.task) w are_answered.0 wished)
    (places_by_thread c plan lines M calls t (d ∷ before) after are_answered.1 (All-tail KeepsTaskLine d after keep)
    (own_next x (caller_of d.line) d.line (bound_by before) (variable_bound d.task) w are_answered.0 wished own))

-- ---- the lines of one list

no_line : (l : OutLine) (lines : List OutLine) → caller_of l ∷ map caller_of lines ≡ [] → lines_of (with_tasks [] (l ∷ lines)) ≡ l ∷ lines
no_line l lines is = absurd (cc is)

lines_with_tasks : (before : List Caller) (turns : List Turn) (lines : List OutLine) → map caller_of lines ≡ callers_after before turns → lines_of (with_tasks turns lines) ≡ lines
lines_with_tasks before [] [] is = refl
lines_with_tasks before [] (l ∷ lines) is = no_line l lines is
lines_with_tasks before (turn ∷ turns) [] is = refl
lines_with_tasks before (turn ∷ turns) (l ∷ lines) is = ap (λ (ls : List OutLine). l ∷ ls) (lines_with_tasks (before ++ caller_after before turn ∷ []) turns lines (ap (drop 1) is))

abbrev none_yet : Histories
none_yet t = []

module _ (c : Setting) (plan : PlanData) (lines : List OutLine) (keep : all_keep_to_themselves plan.bundle ≡ true) (w : Prints c plan lines) where
  abbrev calls : List PlacedCall
  calls = all_calls c plan lines

  abbrev ds : List TaskLine
  ds = all_task_lines c plan lines

  all_keep : All KeepsTaskLine ds
  all_keep = with_tasks_keep (all_turns c plan lines) lines (subst (All Keeps) (sym (turns_are c plan lines keep w)) (quiet_keep plan keep))

  private : All IsPrivateCall calls
  private =
      calls_private c plan lines w.catalogs calls [] ds [] (subst (AreAnswered c plan lines w.catalogs calls []) (sym (append-nil ds)) w.answered) all_keep (All-nil IsOwnBound)

  line_list : lines_of ds ≡ lines
  line_list = lines_with_tasks [] (all_turns c plan lines) lines w.callers

  up : (t : ℕ) → GoUp (map place_of (calls_by t calls))
  up t =
      let places : map place_of (calls_by t calls) ≡ all_places (of_thread t lines) =
      places_by_thread c plan lines w.catalogs calls t [] ds w.answered all_keep (All-nil IsOwnBound) ∙ ap (λ (ls : List OutLine). all_places (of_thread t ls)) line_list
      in
      subst GoUp (sym places) (goes_up (all_places (of_thread t lines)) (AllPairs-from_increasing (all_places (of_thread t lines)) (w.placed.threads t)))

  begins : Stands c plan lines w.catalogs calls none_yet [] ds
  begins = record {
    done = [];
    is = refl;
    are_answered = w.answered;
    keep = all_keep;
    own = All-nil IsOwnBound;
    part = λ t. refl;
    behind = λ t. All-nil (λ (k : PlacedCall). k.thread ≡ t → k.place < 0);
    ahead = λ t. each (λ (k : PlacedCall). k.thread ≡ t → 0 ≤ k.place) calls (λ k same. omega arith);
    rise = rise_from calls up;
  }

  -- they are those of their threads alone
  lines_are : map placeless lines ≡ lines_alone c plan.library none_yet [] (map asked (with_tasks (quiet_turns plan) lines))
  lines_are =
      let once : AreOnce (map place_of calls) = subst AreOnce (sym (places_of_calls c plan lines w)) w.placed.once in
      ap (map placeless) (sym line_list)
      ∙ all_alone c plan lines w.catalogs calls once private none_yet [] ds begins
      ∙ ap (λ (turns : List Turn). lines_alone c plan.library none_yet [] (map asked (with_tasks turns lines))) (turns_are c plan lines keep w)

-- ---- two lists

same_asked : (turns : List Turn) (A B : List OutLine) → map caller_of A ≡ map caller_of B → map asked (with_tasks turns A) ≡ map asked (with_tasks turns B)
same_asked [] A B same = refl
same_asked (turn ∷ turns) [] [] same = refl
same_asked (turn ∷ turns) [] (b ∷ B) same = absurd (cc same)
same_asked (turn ∷ turns) (a ∷ A) [] same = absurd (cc same)
same_asked (turn ∷ turns) (a ∷ A) (b ∷ B) same =
    ap (λ (at : Caller). record { task = turn.task; at = at } ∷ map asked (with_tasks turns A)) (ap (λ (cs : List Caller). get_or cs 0 (caller_of a)) same)
    ∙ ap (λ (more : List Asked). asked (record { task = turn.task; line = b }) ∷ more) (same_asked turns A B (ap (drop 1) same))

pub printed_alike : (c : Setting) (plan : PlanData) (A B : List OutLine) → all_keep_to_themselves plan.bundle ≡ true → Prints c plan A → Prints c plan B → map placeless A ≡ map placeless B
printed_alike c plan A B keep a b =
    let callers : map caller_of A ≡ map caller_of B =
    a.callers ∙ ap (callers_after []) (turns_are c plan A keep a ∙ sym (turns_are c plan B keep b)) ∙ sym b.callers
    in
    lines_are c plan A keep a
    ∙ ap (lines_alone c plan.library none_yet []) (same_asked (quiet_turns plan) A B callers)
    ∙ sym (lines_are c plan B keep b)
