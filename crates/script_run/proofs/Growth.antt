-- What stands before a place stays when a history grows, and so does what is right for it.
use Rattle.std.proofs.Common.{◌≡◌, ℕ, suc, ◌+◌, ◌<◌, ◌≤◌, Bool, true, false, List, [], ◌∷◌, ◌++◌, length, refl, sym, ap, subst, ◌∙◌, arith, inl, inr, length-append}
use Rattle.std.specs.Prelude.{◌==◌, if◌then◌else◌, unwrap_or}
use Rattle.std.proofs.lemmas.Bool.{cases_lt, le-leb, lt-leb}
use Rattle.std.proofs.lemmas.List.Elements.{All-weaker}
use Rattle.handle_table.specs.Entry.{Entry, History, Setting}
use Rattle.thread_current.specs.Thread.{GoesOnFrom}
use Rattle.script_lines.specs.Board.{Moments, catalog_op, granted_at}
use Rattle.script_lines.specs.Catalogs.{Asked}
use Rattle.script_lines.specs.Outcome.{with_call}
use Rattle.script_wishes.specs.Variables.{bindings_of}
use Rattle.script_wishes.specs.Wishes.{wish_of}
use Rattle.script_plan.specs.Plan.{PlanData, books_of}
use Rattle.script_plan.specs.Prints.{TaskLine, PlacedCall, bound_by, caller_of, places_in, behind_last, or_earlier, next_place, calls_of}
use Rattle.script_run.specs.Timed.{oldest, Timed, end_of, task_lines, second_moment, moments_in, IsEntryOf, IsRight, AreRight}

-- ---- what stands before a place

pub oldest_here : (p : ℕ) (e : Entry) (W : History) → length W < p → oldest p (e ∷ W) ≡ e ∷ W
oldest_here p e W lt = ap (λ (b : Bool). if b then e ∷ W else oldest p W) (le-leb (suc (length W)) p (omega arith))

pub oldest_below : (p : ℕ) (e : Entry) (W : History) → p ≤ length W → oldest p (e ∷ W) ≡ oldest p W
oldest_below p e W le = ap (λ (b : Bool). if b then e ∷ W else oldest p W) (lt-leb (suc (length W)) p (omega arith))

-- what stood before a place stands before it in what goes on from there
pub oldest_grows : (p : ℕ) (more W : History) → p ≤ length W → oldest p (more ++ W) ≡ oldest p W
oldest_grows p [] W le = refl
oldest_grows p (e ∷ more) W le =
    let long : length (more ++ W) ≡ length more + length W = length-append more W in
    oldest_below p e (more ++ W) (omega arith) ∙ oldest_grows p more W le

pub oldest_whole : (p : ℕ) (W : History) → length W ≤ p → oldest p W ≡ W
oldest_whole p [] le = refl
oldest_whole p (e ∷ W) le = oldest_here p e W (omega arith)

pub oldest_all : (W : History) → oldest (length W) W ≡ W
oldest_all W = oldest_whole (length W) W (omega arith)

pub oldest_length : (p : ℕ) (W : History) → p ≤ length W → length (oldest p W) ≡ p
oldest_length p [] le = omega arith
oldest_length p (e ∷ W) le =
    elim (cases_lt (length W) p) [
      | inl lt ↦
          let same : length (oldest p (e ∷ W)) ≡ suc (length W) = ap length (oldest_here p e W lt) in
          omega (arith, same, lt, le)
      | inr ge ↦ ap length (oldest_below p e W ge) ∙ oldest_length p W ge
    ]

-- ---- what a line is judged by

-- the Release of a read between stands before the end of its line
pub second_within : (ps : List ℕ) (moment stamp : ℕ) → moment ≤ unwrap_or (behind_last ps) stamp → second_moment ps moment ≤ unwrap_or (behind_last ps) stamp
second_within [] moment stamp since = since
second_within (place ∷ []) moment stamp since = omega arith
second_within (hold ∷ release ∷ more) moment stamp since = omega arith

end_within : (ps : List ℕ) (stamp earlier n : ℕ) → unwrap_or (behind_last ps) stamp ≤ n → earlier ≤ n → or_earlier (behind_last ps) earlier ≤ n
end_within [] stamp earlier n here before = before
end_within (place ∷ []) stamp earlier n here before = here
end_within (hold ∷ release ∷ more) stamp earlier n here before = here

either_within : (b : Bool) (x y n : ℕ) → x ≤ n → y ≤ n → (if b then x else y) ≤ n
either_within true x y n here there = here
either_within false x y n here there = there

-- the next place of a thread is within the history that its lines are right for
pub next_within : (c : Setting) (plan : PlanData) (W : History) (thread : ℕ) (ts : List Timed) → AreRight c plan W ts → next_place thread (task_lines ts) ≤ length W
next_within c plan W thread [] right = omega arith
next_within c plan W thread (t ∷ ts) right =
    let before : next_place thread (task_lines ts) ≤ length W = next_within c plan W thread ts right.1 in
    let ps : List ℕ = places_in t.task_line.line.places in
    either_within (t.task_line.line.thread == thread) (or_earlier (behind_last ps) (next_place thread (task_lines ts))) (next_place thread (task_lines ts)) (length W)
    (end_within ps t.stamp (next_place thread (task_lines ts)) (length W) right.0.within before)
    before

abbrev moments_of : History → History → History → Asked → Moments
moments_of seen first second asked = record { seen = seen; first = first; second = second; asked = asked }

moments_grow : (more W : History) (before : List TaskLine) (t : Timed) → next_place t.task_line.line.thread before ≤ length W → t.moment ≤ length W
    → second_moment (places_in t.task_line.line.places) t.moment ≤ length W → moments_in (more ++ W) before t ≡ moments_in W before t
moments_grow more W before t seen first second =
    let next : ℕ = next_place t.task_line.line.thread before in
    let last : ℕ = second_moment (places_in t.task_line.line.places) t.moment in
    ap (λ (H : History). moments_of H (oldest t.moment (more ++ W)) (oldest last (more ++ W)) t.asked) (oldest_grows next more W seen)
    ∙ ap (λ (H : History). moments_of (oldest next W) H (oldest last (more ++ W)) t.asked) (oldest_grows t.moment more W first)
    ∙ ap (λ (H : History). moments_of (oldest next W) (oldest t.moment W) H t.asked) (oldest_grows last more W second)

entry_grows : (c : Setting) (more W : History) (call : PlacedCall) → IsEntryOf c W call → IsEntryOf c (more ++ W) call
entry_grows c more W call is =
    let within : call.place < length W = is.within in
    let long : length (more ++ W) ≡ length more + length W = length-append more W in
    record {
      within = omega (arith, within, long);
      entry =
          oldest_grows (call.place + 1) more W (omega (arith, within)) ∙ is.entry
          ∙ ap (λ (H : History). with_call c H call.thread call.op) (sym (oldest_grows call.place more W (omega (arith, within))));
    }

right_more : (c : Setting) (plan : PlanData) (more W : History) (before : List TaskLine) (t : Timed) → next_place t.task_line.line.thread before ≤ length W → IsRight c plan W before t → IsRight c plan (more ++ W) before t
right_more c plan more W before t seen r =
    let long : length (more ++ W) ≡ length more + length W = length-append more W in
    let within : end_of t ≤ length W = r.within in
    let since : t.moment ≤ end_of t = r.since in
    let second : second_moment (places_in t.task_line.line.places) t.moment ≤ end_of t = second_within (places_in t.task_line.line.places) t.moment t.stamp since in
    let first_le : t.moment ≤ length W = omega (arith, since, within) in
    let second_le : second_moment (places_in t.task_line.line.places) t.moment ≤ length W = omega (arith, second, within) in
    let same : moments_in (more ++ W) before t ≡ moments_in W before t = moments_grow more W before t seen first_le second_le in
    record {
      within = omega (arith, within, long);
      since = since;
      index = r.index;
      line =
          r.line
          ∙ ap (λ (m : Moments). (granted_at c plan.library (books_of plan) m (caller_of t.task_line.line) (wish_of plan.library (bindings_of t.task_line.line.thread (bound_by before)) t.task_line.task)).line) (sym same);
      entries = All-weaker (IsEntryOf c W) (IsEntryOf c (more ++ W)) (entry_grows c more W) (calls_of plan.library (bound_by before) t.task_line) r.entries;
      op =
          r.op
          ∙ ap (λ (m : Moments). catalog_op c plan.library (books_of plan) m t.task_line.line.thread (wish_of plan.library (bindings_of t.task_line.line.thread (bound_by before)) t.task_line.task)) (sym same);
    }

-- a line that is right for a history is right for what goes on from it
pub right_grows : (c : Setting) (plan : PlanData) (W' W : History) (before : List TaskLine) (t : Timed) → GoesOnFrom W' W → next_place t.task_line.line.thread before ≤ length W → IsRight c plan W before t → IsRight c plan W' before t
right_grows c plan W' W before t on seen r =
    subst (λ (H : History). IsRight c plan H before t) (sym on.1) (right_more c plan on.0 W before t seen r)

pub are_right_grow : (c : Setting) (plan : PlanData) (W' W : History) (ts : List Timed) → GoesOnFrom W' W → AreRight c plan W ts → AreRight c plan W' ts
are_right_grow c plan W' W [] on right = tt
are_right_grow c plan W' W (t ∷ ts) on right = (
  right_grows c plan W' W (task_lines ts) t on (next_within c plan W t.task_line.line.thread ts right.1) right.0,
  are_right_grow c plan W' W ts on right.1,
)
