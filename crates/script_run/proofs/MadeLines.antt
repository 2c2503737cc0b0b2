-- One more line of a thread is right behind its earlier lines.
use Rattle.std.proofs.Common.{◌≡◌, inl, inr, ℕ, suc, ◌+◌, ◌≤◌, Bool, true, false, cond, List, [], ◌∷◌, ◌++◌, length, map, Option, Result, refl, sym, ap, ◌∙◌, subst, arith, eq-eqb}
use Rattle.std.specs.Prelude.{◌==◌, nat_lt, filter, reverse, zip, All}
use Rattle.std.proofs.lemmas.Bool.{lt-ltb, cases_Bool, false≢true}
use Rattle.std.proofs.lemmas.List.Elements.{All-cons, All-head, All-tail}
use Rattle.handle_table.specs.Entry.{History, Setting}
use Rattle.thread_current.specs.Thread.{entries_by}
use Rattle.script_out.specs.declared.output.OutLine.{OutLine}
use Rattle.script_out.specs.declared.output.Places.{Places}
use Rattle.script_out.specs.declared.output.Places.TheVariants as places
use Rattle.script_out.specs.declared.output.Why.{Why}
use Rattle.script_wishes.specs.Turns.{Task}
use Rattle.script_lines.specs.Lines.{Caller}
use Rattle.script_lines.specs.Outcome.{Outcome}
use Rattle.script_wishes.specs.Variables.{bindings_of}
use Rattle.script_wishes.specs.Wishes.{Wish, wish_of, ops_of}
use Rattle.catalog_handles.specs.Entry as catalogs
use Rattle.script_lines.specs.Board.{catalog_op, granted_at}
use Rattle.script_lines.specs.Catalogs.{Asked}
use Rattle.script_plan.specs.Plan.{PlanData, books_of}
use Rattle.script_plan.specs.Prints.{TaskLine, bound_by, caller_of, call_of, places_in, behind_last, or_earlier, next_place}
use Rattle.script_run.specs.Timed.{oldest, places_by, Timed, last_end, AreTimed, task_lines, placed_back, IsEntryOf, IsRight, AreRight}
use Rattle.script_run.proofs.Growth.{oldest_grows, are_right_grow}
use Rattle.script_run.proofs.LineSteps.{IsStep, moments_by}

-- ---- behind the newest place of a thread

-- one more than the first of places, or 0
abbrev pub behind : List ℕ → ℕ
behind [] = 0
behind (place ∷ places) = place + 1

within_history : (t : ℕ) (H : History) → behind (places_by t H) ≤ length H
within_history t [] = omega arith
within_history t (e ∷ H) =
    let rest = within_history t H in
    elim (e.who == t) as (λ (b : Bool). behind (cond b (length H ∷ places_by t H) (places_by t H)) ≤ length (e ∷ H)) [
      | true ↦ omega arith
      | false ↦ omega arith
    ]

-- all entries of the thread stand before the place behind its newest one
all_before : (t : ℕ) (n : ℕ) (H : History) → behind (places_by t H) ≤ n → entries_by t (oldest n H) ≡ entries_by t H
all_before t n [] within = refl
all_before t n (e ∷ H) within =
    elim (cases_Bool (nat_lt (length H) n)) [
      | inl below ↦ ap (λ (b : Bool). entries_by t (cond b (e ∷ H) (oldest n H))) below
      | inr above ↦
          ap (λ (b : Bool). entries_by t (cond b (e ∷ H) (oldest n H))) above
          ∙ (elim (e.who == t) as (λ (b : Bool). behind (cond b (length H ∷ places_by t H) (places_by t H)) ≤ n → entries_by t (oldest n H) ≡ cond b (e ∷ entries_by t H) (entries_by t H)) [
            | true ↦ λ (low : length H + 1 ≤ n). (
                let there : nat_lt (length H) n ≡ true = lt-ltb (length H) n (omega arith) in
                absurd (false≢true (sym above ∙ there)))
            | false ↦ λ low. all_before t n H low
          ] within)
    ]

next_step : (p : Places) (ms : List ℕ) (n : ℕ) → n ≡ behind ms → or_earlier (behind_last (places_in p)) n ≡ behind (reverse (places_in p) ++ ms)
next_step places.None ms n is = is
next_step (places.One place) ms n is = refl
next_step (places.Two hold release) ms n is = refl
next_step (places.Catalog place) ms n is = is

-- the next place of a thread that has made these lines
next_is : (t : ℕ) (made : List Timed) → All (λ (m : Timed). m.task_line.line.thread ≡ t) made → next_place t (task_lines made) ≡ behind (placed_back made)
next_is t [] own = refl
next_is t (m ∷ made) own =
    let here = All-head (λ (x : Timed). x.task_line.line.thread ≡ t) m made own in
    let rest = next_is t made (All-tail (λ (x : Timed). x.task_line.line.thread ≡ t) m made own) in
    ap (λ (b : Bool). cond b (or_earlier (behind_last (places_in m.task_line.line.places)) (next_place t (task_lines made))) (next_place t (task_lines made))) (eq-eqb m.task_line.line.thread t here)
    ∙ next_step m.task_line.line.places (placed_back made) (next_place t (task_lines made)) rest

-- a thread's own lines are all its lines
all_own : (t : ℕ) (made : List Timed) → All (λ (m : Timed). m.task_line.line.thread ≡ t) made → length (filter (λ (d : TaskLine). d.line.thread == t) (task_lines made)) ≡ length made
all_own t [] own = refl
all_own t (m ∷ made) own =
    let here = All-head (λ (x : Timed). x.task_line.line.thread ≡ t) m made own in
    let rest = all_own t made (All-tail (λ (x : Timed). x.task_line.line.thread ≡ t) m made own) in
    ap (λ (b : Bool). length (cond b (m.task_line ∷ filter (λ (d : TaskLine). d.line.thread == t) (task_lines made)) (filter (λ (d : TaskLine). d.line.thread == t) (task_lines made)))) (eq-eqb m.task_line.line.thread t here)
    ∙ ap suc rest

last_within : (c : Setting) (plan : PlanData) (S : History) (made : List Timed) → AreRight c plan S made → last_end made ≤ length S
last_within c plan S [] right = omega arith
last_within c plan S (m ∷ made) right = right.0.within

-- ---- one more line

-- what a thread has made, and seen
pub record HasLines (c : Setting) (plan : PlanData) (t : ℕ) (S : History) (made : List Timed) : Type 0 where
  pub own : All (λ (m : Timed). m.task_line.line.thread ≡ t) made
  pub right : AreRight c plan S made
  pub timed : AreTimed made
  pub places : places_by t S ≡ placed_back made

abbrev pub made_line : Task → OutLine → ℕ → ℕ → Option catalogs.Op → Asked → Timed
made_line task l moment stamp op asked = record { task_line = record { task = task; line = l }; moment = moment; stamp = stamp; op = op; asked = asked }

-- the histories that the line goes by
seen_same : (c : Setting) (plan : PlanData) (at : Caller) (wish : Result Wish Why) (S : History) (done : Outcome) (moment stamp : ℕ) (op : Option catalogs.Op) (asked : Asked) (made : List Timed)
    → HasLines c plan at.thread S made → IsStep c plan.library (books_of plan) at wish S done moment stamp op asked
    → entries_by at.thread (oldest (next_place at.thread (task_lines made)) done.history) ≡ entries_by at.thread S
seen_same c plan at wish S done moment stamp op asked made has step =
    let t : ℕ = at.thread in
    let p : ℕ = next_place t (task_lines made) in
    let here : p ≡ behind (places_by t S) = next_is t made has.own ∙ ap behind (sym has.places) in
    let within = within_history t S in
    let low : p ≤ length S = omega arith in
    let high : behind (places_by t S) ≤ p = omega arith in
    ap (λ (W : History). entries_by t (oldest p W)) step.later.1
    ∙ ap (entries_by t) (oldest_grows p step.later.0 S low)
    ∙ all_before t p S high

right_line : (c : Setting) (plan : PlanData) (at : Caller) (S : History) (done : Outcome) (moment stamp : ℕ) (op : Option catalogs.Op) (asked : Asked) (made : List Timed) (task : Task)
    → HasLines c plan at.thread S made → at.index ≡ length made + 1
    → IsStep c plan.library (books_of plan) at (wish_of plan.library (bindings_of at.thread (bound_by (task_lines made))) task) S done moment stamp op asked → caller_of done.line ≡ at
    → IsRight c plan done.history (task_lines made) (made_line task done.line moment stamp op asked)
right_line c plan at S done moment stamp op asked made task has index step caller =
    let t : ℕ = at.thread in
    let bounds = bound_by (task_lines made) in
    let W : History = done.history in
    let l : OutLine = done.line in
    let thread : t ≡ l.thread = sym (ap (λ (x : Caller). x.thread) caller) in
    let seen = seen_same c plan at (wish_of plan.library (bindings_of t bounds) task) S done moment stamp op asked made has step in
    record {
      within = step.within;
      since = step.until;
      index = ap (λ (x : Caller). x.index) caller ∙ index ∙ ap (λ (n : ℕ). n + 1) (sym (all_own t made has.own))
          ∙ ap (λ (k : ℕ). length (filter (λ (d : TaskLine). d.line.thread == k) (task_lines made)) + 1) thread;
      line = step.line (oldest (next_place t (task_lines made)) W) seen
          ∙ ap (λ (k : ℕ). (granted_at c plan.library (books_of plan) (moments_by W (oldest (next_place k (task_lines made)) W) l moment asked) at (wish_of plan.library (bindings_of k bounds) task)).line) thread
          ∙ ap (λ (x : Caller). (granted_at c plan.library (books_of plan) (moments_by W (oldest (next_place l.thread (task_lines made)) W) l moment asked) x (wish_of plan.library (bindings_of l.thread bounds) task)).line) (sym caller);
      entries = subst (λ (k : ℕ). All (IsEntryOf c W) (map (call_of k) (zip (places_in l.places) (ops_of (wish_of plan.library (bindings_of k bounds) task))))) thread step.entries;
      op = step.asks (oldest (next_place t (task_lines made)) W) seen
          ∙ ap (λ (k : ℕ). catalog_op c plan.library (books_of plan) (moments_by W (oldest (next_place k (task_lines made)) W) l moment asked) k (wish_of plan.library (bindings_of k bounds) task)) thread;
    }

pub more_lines : (c : Setting) (plan : PlanData) (at : Caller) (S : History) (done : Outcome) (moment stamp : ℕ) (op : Option catalogs.Op) (asked : Asked) (made : List Timed) (task : Task)
    → HasLines c plan at.thread S made → at.index ≡ length made + 1
    → IsStep c plan.library (books_of plan) at (wish_of plan.library (bindings_of at.thread (bound_by (task_lines made))) task) S done moment stamp op asked
    → HasLines c plan at.thread done.history (made_line task done.line moment stamp op asked ∷ made)
more_lines c plan at S done moment stamp op asked made task has index step =
    let m : Timed = made_line task done.line moment stamp op asked in
    let last = last_within c plan S made has.right in
    let since = step.since in
    record {
      own = All-cons (λ (x : Timed). x.task_line.line.thread ≡ at.thread) m made (ap (λ (x : Caller). x.thread) step.caller) has.own;
      right = (right_line c plan at S done moment stamp op asked made task has index step step.caller, are_right_grow c plan done.history S made step.later has.right);
      timed = (omega arith, has.timed);
      places = step.places ∙ ap (λ (ps : List ℕ). reverse (places_in done.line.places) ++ ps) has.places;
    }
