-- What a history says to a thread is what the part of threads says, of which it is one.
use Rattle.std.proofs.Common.{◌≡◌, ℕ, Bool, true, false, ◌||◌, List, [], ◌∷◌, refl, sym, ap, ◌∙◌}
use Rattle.std.specs.Prelude.{◌==◌, if◌then◌else◌}
use Rattle.std.proofs.lemmas.Bool.{eqb-true, false≢true}
use Rattle.handle_table.specs.Entry.{Entry, History, Setting}
use Rattle.handle_table.specs.Answer.{IsLegal}
use Rattle.handle_table.specs.Isolation.{has_thread, is_for_all, is_in_part, part_of, IsClosed, SaysOfThreads}
use Rattle.handle_table.proofs.Isolated.{says_part}
use Rattle.script_wishes.specs.declared.holds.OpenHold.{OpenHold}
use Rattle.script_wishes.specs.Holds.{open_holds, holds_after}
use Rattle.script_plan.specs.Isolation.{SaysTheSameTo}

-- an entry that is not of the part is of another thread
not_its_own : (threads : List ℕ) (t : ℕ) (e : Entry) (b : Bool) → has_thread threads t ≡ true → is_in_part threads e ≡ false → (e.who == t) ≡ b → (e.who == t) ≡ false
not_its_own threads t e true within outside is =
    absurd (false≢true (sym outside ∙ ap (λ (s : ℕ). has_thread threads s || is_for_all e.op) (eqb-true e.who t is) ∙ ap (λ (b : Bool). b || is_for_all e.op) within))
not_its_own threads t e false within outside is = is

-- a thread has the same Holds open
holds_with : (threads : List ℕ) (t : ℕ) → has_thread threads t ≡ true → (e : Entry) (H : History) (b : Bool) → is_in_part threads e ≡ b → open_holds (part_of threads H) t ≡ open_holds H t
    → open_holds (if b then e ∷ part_of threads H else part_of threads H) t ≡ open_holds (e ∷ H) t
holds_with threads t within e H true inside same = ap (λ (holds : List OpenHold). if e.who == t then holds_after holds e.op e.reply else holds) same
holds_with threads t within e H false outside same =
    same ∙ sym (ap (λ (b : Bool). if b then holds_after (open_holds H t) e.op e.reply else open_holds H t) (not_its_own threads t e (e.who == t) within outside refl))

holds_of_part : (threads : List ℕ) (t : ℕ) → has_thread threads t ≡ true → (H : History) → open_holds (part_of threads H) t ≡ open_holds H t
holds_of_part threads t within [] = refl
holds_of_part threads t within (e ∷ H) = holds_with threads t within e H (is_in_part threads e) refl (holds_of_part threads t within H)

-- all that a history says to a thread
pub part_says_the_same : (c : Setting) (threads : List ℕ) (t : ℕ) → has_thread threads t ≡ true → (H : History) → IsLegal c H → IsClosed threads H → SaysTheSameTo c t H (part_of threads H)
part_says_the_same c threads t within H legal closed =
    let says : SaysOfThreads c threads (part_of threads H) H = says_part c threads H legal closed in
    record {
      selection = sym (says.selection t within);
      own = sym (says.own t within);
      holds = sym (holds_of_part threads t within H);
      globals = λ version le. sym (says.versions version);
      sets = sym says.sets;
    }
