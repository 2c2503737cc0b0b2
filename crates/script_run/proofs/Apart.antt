-- What a thread's own calls and lines say is the same with those of others between them.
use Rattle.std.proofs.Common.{◌≡◌, ℕ, suc, ◌+◌, ◌≤◌, Bool, true, false, List, [], ◌∷◌, ◌++◌, length, map, Option, Some, None, refl, sym, ap, subst, ◌∙◌, arith, inl, inr}
use Rattle.std.specs.Prelude.{◌==◌, if◌then◌else◌, filter, zip, All}
use Rattle.std.proofs.lemmas.Bool.Decides.{eqb_tells}
use Rattle.std.proofs.lemmas.List.Elements.{All-head, All-tail}
use Rattle.lc_base.specs.declared.handle.Handle.{Handle}
use Rattle.handle_table.specs.Entry.{Entry, History, Setting}
use Rattle.handle_table.specs.Answer.{own}
use Rattle.thread_current.specs.Thread.{entries_by}
use Rattle.script_out.specs.declared.output.OutLine.{OutLine}
use Rattle.catalog_handles.specs.Entry as catalogs
use Rattle.script_lines.specs.Board.{Moments, catalog_op, granted_at}
use Rattle.script_wishes.specs.Variables.{Variable, Bindings, Bound, bindings_of, with_binding, variable_bound, handle_said}
use Rattle.script_wishes.specs.Wishes.{wish_of, ops_of}
use Rattle.script_plan.specs.Plan.{PlanData, books_of}
use Rattle.script_plan.specs.Prints.{TaskLine, PlacedCall, call_of, bound_by, caller_of, places_in, behind_last, or_earlier, next_place}
use Rattle.script_run.specs.Timed.{oldest, places_by, Timed, task_lines, own_lines, second_moment, IsEntryOf, IsRight, AreRight}

-- ---- where others alone have called, a thread's places are the same

either_long : (b : Bool) (e : Entry) (K : History) (n : ℕ) → n ≤ length K → n ≤ length (if b then e ∷ K else K)
either_long true e K n le = omega arith
either_long false e K n le = le

entries_grow : (t : ℕ) (more H : History) → length (entries_by t H) ≤ length (entries_by t (more ++ H))
entries_grow t [] H = omega arith
entries_grow t (e ∷ more) H = either_long (e.who == t) e (entries_by t (more ++ H)) (length (entries_by t H)) (entries_grow t more H)

pub places_stay : (t : ℕ) (more H : History) → entries_by t (more ++ H) ≡ entries_by t H → places_by t (more ++ H) ≡ places_by t H
places_stay t [] H same = refl
places_stay t (e ∷ more) H same =
    let all : History = entries_by t (more ++ H) in
    elim (eqb_tells e.who t) [
      | inl here ↦
          let one : entries_by t (e ∷ more ++ H) ≡ e ∷ all = ap (λ (b : Bool). if b then e ∷ all else all) here.0 in
          let long : suc (length all) ≡ length (entries_by t H) = ap length (sym one ∙ same) in
          let grown : length (entries_by t H) ≤ length all = entries_grow t more H in
          absurd (omega (arith, long, grown))
      | inr apart ↦
          let none : entries_by t (e ∷ more ++ H) ≡ all = ap (λ (b : Bool). if b then e ∷ all else all) apart.0 in
          ap (λ (b : Bool). if b then length (more ++ H) ∷ places_by t (more ++ H) else places_by t (more ++ H)) apart.0
          ∙ places_stay t more H (sym none ∙ same)
    ]

-- ---- a line is judged by the earlier lines of its own thread

abbrev pub own_task_lines : ℕ → List TaskLine → List TaskLine
own_task_lines thread ds = filter (λ (d : TaskLine). d.line.thread == thread) ds

abbrev next_if : Bool → TaskLine → ℕ → ℕ
next_if b d earlier = if b then or_earlier (behind_last (places_in d.line.places)) earlier else earlier

next_of_own : (thread : ℕ) (ds : List TaskLine) → next_place thread ds ≡ next_place thread (own_task_lines thread ds)
next_of_own thread [] = refl
next_of_own thread (d ∷ ds) =
    let ours : List TaskLine = own_task_lines thread ds in
    elim (eqb_tells d.line.thread thread) [
      | inl here ↦
          ap (next_if (d.line.thread == thread) d) (next_of_own thread ds)
          ∙ sym (ap (λ (b : Bool). next_place thread (if b then d ∷ ours else ours)) here.0)
      | inr apart ↦
          ap (λ (b : Bool). next_if b d (next_place thread ds)) apart.0
          ∙ next_of_own thread ds
          ∙ sym (ap (λ (b : Bool). next_place thread (if b then d ∷ ours else ours)) apart.0)
    ]

abbrev bindings_if : Bool → ℕ → Bound → List Bound → Bindings
bindings_if b thread one bs =
    let others : List Bound = filter (λ (x : Bound). x.thread == thread) bs in
    map (λ (x : Bound). (x.variable, x.handle)) (if b then one ∷ others else others)

-- a binding of the thread goes on from what its variables stood for, and one of another thread changes nothing
bound_here : (thread who : ℕ) (bs cs : List Bound) (v : Option Variable) (h : Option Handle) → bindings_of thread bs ≡ bindings_of thread cs
    → bindings_of thread (with_binding who bs v h) ≡ bindings_of thread (with_binding who cs v h)
bound_here thread who bs cs None h same = same
bound_here thread who bs cs (Some variable) None same = same
bound_here thread who bs cs (Some variable) (Some h) same =
    elim (eqb_tells who thread) [
      | inl here ↦
          ap (λ (b : Bool). bindings_if b thread (record { thread = who; variable = variable; handle = h }) bs) here.0
          ∙ ap (λ (rest : Bindings). (variable, h) ∷ rest) same
          ∙ sym (ap (λ (b : Bool). bindings_if b thread (record { thread = who; variable = variable; handle = h }) cs) here.0)
      | inr apart ↦
          ap (λ (b : Bool). bindings_if b thread (record { thread = who; variable = variable; handle = h }) bs) apart.0
          ∙ same
          ∙ sym (ap (λ (b : Bool). bindings_if b thread (record { thread = who; variable = variable; handle = h }) cs) apart.0)
    ]

bound_elsewhere : (thread who : ℕ) (bs : List Bound) (v : Option Variable) (h : Option Handle) → (who == thread) ≡ false → bindings_of thread (with_binding who bs v h) ≡ bindings_of thread bs
bound_elsewhere thread who bs None h apart = refl
bound_elsewhere thread who bs (Some variable) None apart = refl
bound_elsewhere thread who bs (Some variable) (Some h) apart =
    ap (λ (b : Bool). bindings_if b thread (record { thread = who; variable = variable; handle = h }) bs) apart

bound_of_own : (thread : ℕ) (ds : List TaskLine) → bindings_of thread (bound_by ds) ≡ bindings_of thread (bound_by (own_task_lines thread ds))
bound_of_own thread [] = refl
bound_of_own thread (d ∷ ds) =
    let ours : List TaskLine = own_task_lines thread ds in
    let v : Option Variable = variable_bound d.task in
    let h : Option Handle = handle_said d.line.reply in
    elim (eqb_tells d.line.thread thread) [
      | inl here ↦
          bound_here thread d.line.thread (bound_by ds) (bound_by ours) v h (bound_of_own thread ds)
          ∙ sym (ap (λ (b : Bool). bindings_of thread (bound_by (if b then d ∷ ours else ours))) here.0)
      | inr apart ↦
          bound_elsewhere thread d.line.thread (bound_by ds) v h apart.0
          ∙ bound_of_own thread ds
          ∙ sym (ap (λ (b : Bool). bindings_of thread (bound_by (if b then d ∷ ours else ours))) apart.0)
    ]

pub next_apart : (thread : ℕ) (ds es : List TaskLine) → own_task_lines thread ds ≡ own_task_lines thread es → next_place thread ds ≡ next_place thread es
next_apart thread ds es same = next_of_own thread ds ∙ ap (next_place thread) same ∙ sym (next_of_own thread es)

pub bound_apart : (thread : ℕ) (ds es : List TaskLine) → own_task_lines thread ds ≡ own_task_lines thread es → bindings_of thread (bound_by ds) ≡ bindings_of thread (bound_by es)
bound_apart thread ds es same = bound_of_own thread ds ∙ ap (λ (ks : List TaskLine). bindings_of thread (bound_by ks)) same ∙ sym (bound_of_own thread es)

abbrev line_for : Setting → PlanData → Timed → Moments → Bindings → OutLine
line_for c plan t m bs = (granted_at c plan.library (books_of plan) m (caller_of t.task_line.line) (wish_of plan.library bs t.task_line.task)).line

abbrev op_for : Setting → PlanData → Timed → Moments → Bindings → Option catalogs.Op
op_for c plan t m bs = catalog_op c plan.library (books_of plan) m t.task_line.line.thread (wish_of plan.library bs t.task_line.task)

abbrev calls_for : PlanData → Timed → Bindings → List PlacedCall
calls_for plan t bs = map (call_of t.task_line.line.thread) (zip (places_in t.task_line.line.places) (ops_of (wish_of plan.library bs t.task_line.task)))

abbrev moments_from : History → ℕ → Timed → Moments
moments_from W next t = record {
  seen = oldest next W;
  first = oldest t.moment W;
  second = oldest (second_moment (places_in t.task_line.line.places) t.moment) W;
  asked = t.asked;
}

pub right_apart : (c : Setting) (plan : PlanData) (W : History) (before before' : List TaskLine) (t : Timed) → own_task_lines t.task_line.line.thread before ≡ own_task_lines t.task_line.line.thread before'
    → IsRight c plan W before t → IsRight c plan W before' t
right_apart c plan W before before' t same r =
    let next : next_place t.task_line.line.thread before ≡ next_place t.task_line.line.thread before' = next_apart t.task_line.line.thread before before' same in
    let bound : bindings_of t.task_line.line.thread (bound_by before) ≡ bindings_of t.task_line.line.thread (bound_by before') = bound_apart t.task_line.line.thread before before' same in
    record {
      within = r.within;
      since = r.since;
      index = r.index ∙ ap (λ (ds : List TaskLine). length ds + 1) same;
      line =
          r.line
          ∙ ap (λ (n : ℕ). line_for c plan t (moments_from W n t) (bindings_of t.task_line.line.thread (bound_by before))) next
          ∙ ap (line_for c plan t (moments_from W (next_place t.task_line.line.thread before') t)) bound;
      entries = subst (λ (bs : Bindings). All (IsEntryOf c W) (calls_for plan t bs)) bound r.entries;
      op =
          r.op
          ∙ ap (λ (n : ℕ). op_for c plan t (moments_from W n t) (bindings_of t.task_line.line.thread (bound_by before))) next
          ∙ ap (op_for c plan t (moments_from W (next_place t.task_line.line.thread before') t)) bound;
    }

-- ---- lines of one thread behind those of all

task_lines_apart : (thread : ℕ) (ts : List Timed) → own_task_lines thread (task_lines (own_lines thread ts)) ≡ own_task_lines thread (task_lines ts)
task_lines_apart thread [] = refl
task_lines_apart thread (t ∷ ts) =
    let ours : List Timed = own_lines thread ts in
    let rest : List TaskLine = own_task_lines thread (task_lines ts) in
    elim (eqb_tells t.task_line.line.thread thread) [
      | inl here ↦
          ap (λ (b : Bool). own_task_lines thread (task_lines (if b then t ∷ ours else ours))) here.0
          ∙ ap (λ (b : Bool). if b then t.task_line ∷ own_task_lines thread (task_lines ours) else own_task_lines thread (task_lines ours)) here.0
          ∙ ap (λ (ds : List TaskLine). t.task_line ∷ ds) (task_lines_apart thread ts)
          ∙ sym (ap (λ (b : Bool). if b then t.task_line ∷ rest else rest) here.0)
      | inr apart ↦
          ap (λ (b : Bool). own_task_lines thread (task_lines (if b then t ∷ ours else ours))) apart.0
          ∙ task_lines_apart thread ts
          ∙ sym (ap (λ (b : Bool). if b then t.task_line ∷ rest else rest) apart.0)
    ]

more_apart : (thread : ℕ) (more all : List Timed) → own_task_lines thread (task_lines (more ++ own_lines thread all)) ≡ own_task_lines thread (task_lines (more ++ all))
more_apart thread [] all = task_lines_apart thread all
more_apart thread (t ∷ more) all =
    ap (λ (ds : List TaskLine). if (t.task_line.line.thread == thread) then t.task_line ∷ ds else ds) (more_apart thread more all)

-- lines of a thread that are right behind its own earlier lines are right behind all lines
pub right_onto : (c : Setting) (plan : PlanData) (W : History) (thread : ℕ) (more all : List Timed) → All (λ (t : Timed). t.task_line.line.thread ≡ thread) more
    → AreRight c plan W (more ++ own_lines thread all) → AreRight c plan W all → AreRight c plan W (more ++ all)
right_onto c plan W thread [] all own ours right = right
right_onto c plan W thread (t ∷ more) all own ours right =
    let Own : Timed → Type 0 = λ (x : Timed). x.task_line.line.thread ≡ thread in
    let is : t.task_line.line.thread ≡ thread = All-head Own t more own in
    let same : own_task_lines t.task_line.line.thread (task_lines (more ++ own_lines thread all)) ≡ own_task_lines t.task_line.line.thread (task_lines (more ++ all)) =
    subst (λ (n : ℕ). own_task_lines n (task_lines (more ++ own_lines thread all)) ≡ own_task_lines n (task_lines (more ++ all))) (sym is) (more_apart thread more all)
    in (
      right_apart c plan W (task_lines (more ++ own_lines thread all)) (task_lines (more ++ all)) t same ours.0,
      right_onto c plan W thread more all (All-tail Own t more own) ours.1 right,
    )
