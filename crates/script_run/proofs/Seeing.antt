-- Threads that see more of one history and make no call: what they have made stays.
use Rattle.std.proofs.Common.{◌≡◌, ℕ, ◌+◌, ◌≤◌, Bool, true, false, cond, List, [], ◌∷◌, ◌++◌, length, refl, sym, ap, subst, ◌∙◌, arith, length-append, append_assoc}
use Rattle.std.specs.Prelude.{◌==◌}
use Rattle.std.proofs.lemmas.List.Elements.{All-weaker}
use Rattle.turn_gate.specs.declared.entry.Terms.{Terms}
use Rattle.handle_table.specs.Entry.{Entry, History, Setting}
use Rattle.thread_current.specs.Thread.{Thread, IsInOrder, SawMore, GoesOnFrom, entries_by}
use Rattle.script_lines.specs.declared.thread.Thread.{Thread as ScriptThread}
use Rattle.script_wishes.specs.Holds.{open_holds}
use Rattle.script_plan.specs.Plan.{PlanData}
use Rattle.script_seats.specs.declared.seated.Seated.{Seated}
use Rattle.script_run.specs.Timed.{Timed, places_by}
use Rattle.script_run.specs.Beside.{HasMade}
use Rattle.script_run.proofs.Growth.{are_right_grow}
use Rattle.script_run.proofs.Apart.{places_stay}
use Rattle.script_seats.proofs.OwnCalls.{holds_says}

-- ---- histories that go on

pub goes_on : (W S : History) (T : History) → GoesOnFrom T W → GoesOnFrom W S → GoesOnFrom T S
goes_on W S T after before =
    (after.0 ++ before.0, after.1 ∙ ap (λ (H : History). after.0 ++ H) before.1 ∙ sym (append_assoc after.0 before.0 S))

pub goes_same : (W : History) → GoesOnFrom W W
goes_same W = ([], refl)

pub as_long : (W S : History) → GoesOnFrom W S → length S ≤ length W
as_long W S later =
    let long : length W ≡ length (later.0 ++ S) = ap (λ (H : History). length H) later.1 in
    let both : length (later.0 ++ S) ≡ length later.0 + length S = length-append later.0 S in
    omega (arith, long, both)

one_of_both : (e : Entry) (xs ys : History) (b : Bool) → cond b (e ∷ (xs ++ ys)) (xs ++ ys) ≡ cond b (e ∷ xs) xs ++ ys
one_of_both e xs ys true = refl
one_of_both e xs ys false = refl

pub entries_of_both : (t : ℕ) (more H : History) → entries_by t (more ++ H) ≡ entries_by t more ++ entries_by t H
entries_of_both t [] H = refl
entries_of_both t (e ∷ more) H =
    ap (λ (es : History). cond (e.who == t) (e ∷ es) es) (entries_of_both t more H) ∙ one_of_both e (entries_by t more) (entries_by t H) (e.who == t)

pub no_entry : (xs : History) → length xs ≡ 0 → xs ≡ []
no_entry [] none = refl
no_entry (x ∷ xs) none = absurd (omega (arith, none))

-- a history between two in which a thread has the same calls has these calls, too
pub between_same : (t : ℕ) (S W T : History) → GoesOnFrom W S → GoesOnFrom T W → entries_by t T ≡ entries_by t S → entries_by t W ≡ entries_by t S
between_same t S W T low high same =
    let lower : entries_by t W ≡ entries_by t low.0 ++ entries_by t S = ap (entries_by t) low.1 ∙ entries_of_both t low.0 S in
    let upper : entries_by t T ≡ entries_by t high.0 ++ entries_by t W = ap (entries_by t) high.1 ∙ entries_of_both t high.0 W in
    let low_long : length (entries_by t W) ≡ length (entries_by t low.0) + length (entries_by t S) =
    ap (λ (H : History). length H) lower ∙ length-append (entries_by t low.0) (entries_by t S)
    in
    let high_long : length (entries_by t T) ≡ length (entries_by t high.0) + length (entries_by t W) =
    ap (λ (H : History). length H) upper ∙ length-append (entries_by t high.0) (entries_by t W)
    in
    let ends : length (entries_by t T) ≡ length (entries_by t S) = ap (λ (H : History). length H) same in
    let none : entries_by t low.0 ≡ [] = no_entry (entries_by t low.0) (omega (arith, low_long, high_long, ends)) in
    lower ∙ ap (λ (H : History). H ++ entries_by t S) none

-- the places of a thread whose calls are the same
pub same_places : (t : ℕ) (S W : History) → GoesOnFrom W S → entries_by t W ≡ entries_by t S → places_by t W ≡ places_by t S
same_places t S W later same =
    ap (places_by t) later.1 ∙ places_stay t later.0 S (ap (entries_by t) (sym later.1) ∙ same)

-- ---- a thread that saw more

saw_entries : (terms : Terms Setting) (t u : Thread) → IsInOrder terms t → IsInOrder terms u → SawMore t u → entries_by t.number u.seen ≡ entries_by t.number t.seen
saw_entries terms t u before after saw =
    ap (λ (n : ℕ). entries_by n u.seen) (sym saw.same.number) ∙ after.calls ∙ saw.calls ∙ sym before.calls

pub made_kept : (terms : Terms Setting) (plan : PlanData) (t u : Thread) (made : List Timed) → HasMade terms plan t made → SawMore t u → IsInOrder terms u → HasMade terms plan u made
made_kept terms plan t u made was saw order = record {
  in_order = order;
  own = All-weaker (λ (m : Timed). m.task_line.line.thread ≡ t.number) (λ (m : Timed). m.task_line.line.thread ≡ u.number) (λ m e. e ∙ sym saw.same.number) made was.own;
  right = are_right_grow terms.setting plan u.seen t.seen made saw.later was.right;
  timed = was.timed;
  places =
      ap (λ (n : ℕ). places_by n u.seen) saw.same.number
      ∙ same_places t.number t.seen u.seen saw.later (saw_entries terms t u was.in_order order saw)
      ∙ was.places;
}

-- the same thread of the script with what it is at the table
abbrev pub thread_with : ScriptThread Seated → Thread → ScriptThread Seated
thread_with t mine = record t { side = record t.side { mine = mine } }

-- a history that a thread had seen, and one that it has seen, say the same of its Holds
pub holds_kept : (terms : Terms Setting) (t u : Thread) (n : ℕ) → t.number ≡ n → IsInOrder terms t → IsInOrder terms u → SawMore t u → open_holds u.seen n ≡ open_holds t.seen n
holds_kept terms t u n own before after saw =
    holds_says n u.seen t.seen (subst (λ (k : ℕ). entries_by k u.seen ≡ entries_by k t.seen) own (saw_entries terms t u before after saw))
