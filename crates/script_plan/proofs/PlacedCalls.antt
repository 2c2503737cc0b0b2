-- The calls of the lines that a script may print: each has a place of its own, below their number, and stands there in the history.
use Rattle.std.proofs.Common.{◌≡◌, ℕ, zero, suc, ◌+◌, ◌<◌, ◌≤◌, Bool, true, false, cond, List, [], ◌∷◌, ◌++◌, length, map, drop, find, Option, Some, None, Result, Ok, Err, refl, sym, ap, subst, ◌∙◌, arith, inl, inr, length-append}
use Rattle.std.specs.Prelude.{◌==◌, nat_lt, count_by}
use Rattle.std.specs.Option.{option_or}
use Rattle.std.proofs.lemmas.Bool.{cases_lt, eq-eqb, ne_eqb, le-leb, lt-leb}
use Rattle.std.proofs.lemmas.Bool.Decides.{eqb_tells}
use Rattle.std.proofs.lemmas.List.{map-append, length-map}
use Rattle.std.proofs.lemmas.List.Folds.{find-append}
use Rattle.std.proofs.lemmas.List.Sums.{sum_by-cons, sum_by-append, count_by-le-length}
use Rattle.mask_compose.specs.Parts.{Parts}
use Rattle.lc_base.specs.declared.handle.Named.{Named}
use Rattle.handle_table.specs.Entry.{History, Setting}
use Rattle.handle_table.specs.Answer.{own, IsLegal}
use Rattle.script_commands.specs.declared.command.Read.{Read}
use Rattle.script_out.specs.declared.output.OutLine.{OutLine}
use Rattle.script_out.specs.declared.output.Places.{Places}
use Rattle.script_out.specs.declared.output.Why.{Why}
use Rattle.script_plan.specs.Plan.{PlanData, books_of}
use Rattle.script_wishes.specs.Holds.{open_holds, held_as}
use Rattle.script_plan.specs.Isolation.{all_task_lines, all_calls}
use Rattle.script_lines.specs.Lines.{Caller}
use Rattle.script_plan.specs.Prints.{TaskLine, with_tasks, bound_by, places_in, all_places, PlacedCall, calls_of, calls_after, with_placed, history_below, Around, around, seen, lines_of, IsReadOf, IsRead, IsGranted, IsAnswered, AreAnswered, caller_of, caller_after, callers_after, all_turns, Prints, IsOpenOf, IsOpen, global_of}
use Rattle.script_wishes.specs.Turns.{Turn}
use Rattle.script_wishes.specs.Variables.{bindings_of}
use Rattle.script_wishes.specs.Wishes.{Wish, Calls, ReadsOf, Reads, AsksSelection, AsksName, wish_of, OpensCatalog, GetsMessage, ClosesCatalog}
use Rattle.script_plan.proofs.LineLists.{is_this}
use Rattle.script_plan.proofs.GoingOn.{is_at, wished_calls}
use Rattle.script_lines.specs.Catalogs.{book_for}
use Rattle.catalog_handles.specs.Entry.{History as CatalogHistory}

-- ---- the places of lines are those of their calls

abbrev pub place_of : PlacedCall → ℕ
place_of call = call.place

abbrev KeepsPlaces : ℕ → Result Wish Why → Places → Type 0
KeepsPlaces thread w at = map place_of (wished_calls thread (places_in at) w) ≡ places_in at

of_kept : (x : Around) (at : Caller) (l : OutLine) (n : Named) (read : Read) (held : Option Parts) → IsReadOf x at l n read held → KeepsPlaces at.thread (Ok (ReadsOf n read)) l.places
of_kept x at l n read (Some object) is = subst (KeepsPlaces at.thread (Ok (ReadsOf n read))) (sym (ap (λ (k : OutLine). k.places) is)) refl
of_kept x at l n read None (inl r) = subst (KeepsPlaces at.thread (Ok (ReadsOf n read))) (sym (ap (λ (k : OutLine). k.places) r.is)) refl
of_kept x at l n read None (inr r) = subst (KeepsPlaces at.thread (Ok (ReadsOf n read))) (sym (ap (λ (k : OutLine). k.places) r.is)) refl

read_kept : (x : Around) (at : Caller) (l : OutLine) (read : Read) (object : Option Parts) → IsRead x at l read object → KeepsPlaces at.thread (Ok (Reads read)) l.places
read_kept x at l read (Some object) is = subst (KeepsPlaces at.thread (Ok (Reads read))) (sym (ap (λ (k : OutLine). k.places) is)) refl
read_kept x at l read None r = subst (KeepsPlaces at.thread (Ok (Reads read))) (sym (ap (λ (k : OutLine). k.places) r.is)) refl

open_kept : (x : Around) (at : Caller) (l : OutLine) (name : List ℕ) (version n : Option ℕ) → IsOpenOf x at l version n → KeepsPlaces at.thread (Ok (OpensCatalog name)) l.places
open_kept x at l name version None is = subst (KeepsPlaces at.thread (Ok (OpensCatalog name))) (sym (ap (λ (k : OutLine). k.places) is)) refl
open_kept x at l name version (Some n) r = subst (KeepsPlaces at.thread (Ok (OpensCatalog name))) (sym (ap (λ (k : OutLine). k.places) r.is)) refl

opens_kept : (x : Around) (at : Caller) (l : OutLine) (name : List ℕ) (object : Option Parts) → IsOpen x at l name object → KeepsPlaces at.thread (Ok (OpensCatalog name)) l.places
opens_kept x at l name (Some object) is = open_kept x at l name None (book_for x.plan.library (books_of x.plan) object name) is
opens_kept x at l name None r = open_kept x at l name (Some r.version) (book_for x.plan.library (books_of x.plan) (global_of x r.version) name) r.opens

granted_kept : (x : Around) (at : Caller) (l : OutLine) (w : Result Wish Why) → IsGranted x at l w → KeepsPlaces at.thread w l.places
granted_kept x at l (Err why) is = subst (KeepsPlaces at.thread (Err why)) (sym (ap (λ (k : OutLine). k.places) is)) refl
granted_kept x at l (Ok (Calls categories op)) r = subst (KeepsPlaces at.thread (Ok (Calls categories op))) (sym (ap (λ (k : OutLine). k.places) r.is)) refl
granted_kept x at l (Ok (ReadsOf n read)) is = of_kept x at l n read (held_as (open_holds (seen x at.thread) at.thread) n) is
granted_kept x at l (Ok (Reads read)) is = read_kept x at l read (own (seen x at.thread) at.thread) is
granted_kept x at l (Ok AsksSelection) is = subst (KeepsPlaces at.thread (Ok AsksSelection)) (sym (ap (λ (k : OutLine). k.places) is)) refl
granted_kept x at l (Ok (AsksName categories)) r = subst (KeepsPlaces at.thread (Ok (AsksName categories))) (sym (ap (λ (k : OutLine). k.places) r.is)) refl
granted_kept x at l (Ok (OpensCatalog name)) is = opens_kept x at l name (own (seen x at.thread) at.thread) is
granted_kept x at l (Ok (GetsMessage h set message default)) r = subst (KeepsPlaces at.thread (Ok (GetsMessage h set message default))) (sym (ap (λ (k : OutLine). k.places) r.is)) refl
granted_kept x at l (Ok (ClosesCatalog h)) r = subst (KeepsPlaces at.thread (Ok (ClosesCatalog h))) (sym (ap (λ (k : OutLine). k.places) r.is)) refl

task_line_kept : (x : Around) (d : TaskLine) → IsAnswered x d → map place_of (calls_of x.plan.library (bound_by x.before) d) ≡ places_in d.line.places
task_line_kept x d is = granted_kept x (caller_of d.line) d.line (wish_of x.plan.library (bindings_of d.line.thread (bound_by x.before)) d.task) is

all_kept : (c : Setting) (plan : PlanData) (lines : List OutLine) (M : CatalogHistory) (calls : List PlacedCall) (before after : List TaskLine) → AreAnswered c plan lines M calls before after
    → map place_of (calls_after plan.library before after) ≡ all_places (lines_of after)
all_kept c plan lines M calls before [] answered = refl
all_kept c plan lines M calls before (d ∷ after) answered =
    let here : List PlacedCall = calls_of plan.library (bound_by before) d in
    let rest : List PlacedCall = calls_after plan.library (d ∷ before) after in
    map-append place_of here rest
    ∙ ap (λ (ps : List ℕ). ps ++ map place_of rest) (task_line_kept (around c plan lines M calls before after) d answered.0)
    ∙ ap (λ (ps : List ℕ). places_in d.line.places ++ ps) (all_kept c plan lines M calls (d ∷ before) after answered.1)

no_line : (l : OutLine) (lines : List OutLine) → caller_of l ∷ map caller_of lines ≡ [] → lines_of (with_tasks [] (l ∷ lines)) ≡ l ∷ lines
no_line l lines is = absurd (cc is)

lines_with_tasks : (before : List Caller) (turns : List Turn) (lines : List OutLine) → map caller_of lines ≡ callers_after before turns → lines_of (with_tasks turns lines) ≡ lines
lines_with_tasks before [] [] is = refl
lines_with_tasks before [] (l ∷ lines) is = no_line l lines is
lines_with_tasks before (turn ∷ turns) [] is = refl
lines_with_tasks before (turn ∷ turns) (l ∷ lines) is = ap (λ (ls : List OutLine). l ∷ ls) (lines_with_tasks (before ++ caller_after before turn ∷ []) turns lines (ap (drop 1) is))

pub places_of_calls : (c : Setting) (plan : PlanData) (lines : List OutLine) → Prints c plan lines → map place_of (all_calls c plan lines) ≡ all_places lines
places_of_calls c plan lines w =
    all_kept c plan lines w.catalogs (all_calls c plan lines) [] (all_task_lines c plan lines) w.answered
    ∙ ap all_places (lines_with_tasks [] (all_turns c plan lines) lines w.callers)

-- ---- numbers of which each below their length is there once are all below it

abbrev is_below : ℕ → ℕ → Bool
is_below k p = nat_lt p k

abbrev bit : Bool → ℕ
bit b = cond b 1 0

abbrev below_bit : ℕ → ℕ → ℕ
below_bit k p = bit (nat_lt p k)

bit_next : (k p : ℕ) → below_bit (suc k) p ≡ below_bit k p + bit (p == k)
bit_next k p =
    elim (cases_lt p k) [
      | inl lt ↦
          let more : below_bit (suc k) p ≡ 1 = ap bit (le-leb (suc p) (suc k) (omega (arith, lt))) in
          let here : below_bit k p ≡ 1 = ap bit (le-leb (suc p) k (omega (arith, lt))) in
          let no : bit (p == k) ≡ 0 = ap bit (ne_eqb p k (λ same. omega (arith, same, lt))) in
          omega (arith, more, here, no)
      | inr ge ↦
          let here : below_bit k p ≡ 0 = ap bit (lt-leb (suc p) k (omega (arith, ge))) in
          elim (eqb_tells p k) [
            | inl same ↦
                let is : p ≡ k = same.1 in
                let more : below_bit (suc k) p ≡ 1 = ap bit (le-leb (suc p) (suc k) (omega (arith, is))) in
                let yes : bit (p == k) ≡ 1 = ap bit same.0 in
                omega (arith, more, here, yes)
            | inr differs ↦
                let apart = differs.1 in
                let more : below_bit (suc k) p ≡ 0 = ap bit (lt-leb (suc p) (suc k) (omega (arith, apart, ge))) in
                let no : bit (p == k) ≡ 0 = ap bit differs.0 in
                omega (arith, more, here, no)
          ]
    ]

below_next : (k : ℕ) (ps : List ℕ) → count_by (is_below (suc k)) ps ≡ count_by (is_below k) ps + count_by (is_this k) ps
below_next k [] = refl
below_next k (p ∷ ps) =
    let more = sum_by-cons (below_bit (suc k)) p ps in
    let here = sum_by-cons (below_bit k) p ps in
    let this = sum_by-cons (λ (q : ℕ). bit (is_this k q)) p ps in
    let bit = bit_next k p in
    let rest = below_next k ps in
    omega (arith, more, here, this, bit, rest)

none_below : (ps : List ℕ) → count_by (is_below 0) ps ≡ 0
none_below [] = refl
none_below (p ∷ ps) =
    let here = sum_by-cons (below_bit 0) p ps in
    let no : below_bit 0 p ≡ 0 = ap bit (lt-leb (suc p) 0 (omega arith)) in
    let rest = none_below ps in
    omega (arith, here, no, rest)

abbrev pub AreOnce : List ℕ → Type 0
AreOnce ps = (p : ℕ) → p < length ps → count_by (is_this p) ps ≡ 1

so_many_below : (ps : List ℕ) → AreOnce ps → (k : ℕ) → k ≤ length ps → count_by (is_below k) ps ≡ k
so_many_below ps once zero le = none_below ps
so_many_below ps once (suc k) le =
    let before = so_many_below ps once k (omega (arith, le)) in
    let this = once k (omega (arith, le)) in
    let next = below_next k ps in
    omega (arith, before, this, next)

is_below_length : (ps first rest : List ℕ) (p : ℕ) → ps ≡ first ++ p ∷ rest → AreOnce ps → p < length ps
is_below_length ps first rest p is once =
    elim (cases_lt p (length ps)) [
      | inl lt ↦ lt
      | inr ge ↦
          let n : ℕ = length ps in
          let all : count_by (is_below n) ps ≡ n = so_many_below ps once n (omega arith) in
          let split : count_by (is_below n) ps ≡ count_by (is_below n) first + count_by (is_below n) (p ∷ rest) =
          ap (count_by (is_below n)) is ∙ sum_by-append (below_bit n) first (p ∷ rest)
          in
          let here = sum_by-cons (below_bit n) p rest in
          let no : below_bit n p ≡ 0 = ap bit (lt-leb (suc p) n (omega (arith, ge))) in
          let few = count_by-le-length (is_below n) first in
          let fewer = count_by-le-length (is_below n) rest in
          let long : n ≡ length first + length (p ∷ rest) = ap length is ∙ length-append first (p ∷ rest) in
          absurd (omega (arith, all, split, here, no, few, fewer, long))
    ]

-- ---- the one call at a place is found there

not_found_if : (q : PlacedCall → Bool) (call : PlacedCall) (calls : List PlacedCall) (b : Bool) → q call ≡ b → count_by q (call ∷ calls) ≡ 0
    → (count_by q calls ≡ 0 → find q calls ≡ None) → find q (call ∷ calls) ≡ None
not_found_if q call calls true is none rest =
    let sum = sum_by-cons (λ (k : PlacedCall). bit (q k)) call calls in
    let yes : bit (q call) ≡ 1 = ap bit is in
    absurd (omega (arith, sum, yes, none))
not_found_if q call calls false is none rest =
    let sum = sum_by-cons (λ (k : PlacedCall). bit (q k)) call calls in
    ap (λ (b : Bool). cond b (Some call) (find q calls)) is ∙ rest (omega (arith, sum, none))

not_found : (q : PlacedCall → Bool) (calls : List PlacedCall) → count_by q calls ≡ 0 → find q calls ≡ None
not_found q [] none = refl
not_found q (call ∷ calls) none = not_found_if q call calls (q call) refl none (not_found q calls)

found_once : (q : PlacedCall → Bool) (first rest : List PlacedCall) (call : PlacedCall) → q call ≡ true → count_by q (first ++ call ∷ rest) ≡ 1 → find q (first ++ call ∷ rest) ≡ Some call
found_once q first rest call is once =
    let split = sum_by-append (λ (k : PlacedCall). bit (q k)) first (call ∷ rest) in
    let here = sum_by-cons (λ (k : PlacedCall). bit (q k)) call rest in
    let yes : bit (q call) ≡ 1 = ap bit is in
    let none : count_by q first ≡ 0 = omega (arith, split, here, yes, once) in
    find-append q first (call ∷ rest)
    ∙ ap (λ (o : Option PlacedCall). option_or o (find q (call ∷ rest))) (not_found q first none)
    ∙ ap (λ (b : Bool). cond b (Some call) (find q rest)) is

count_places : (p : ℕ) (calls : List PlacedCall) → count_by (is_at p) calls ≡ count_by (is_this p) (map place_of calls)
count_places p [] = refl
count_places p (call ∷ calls) =
    let here = sum_by-cons (λ (k : PlacedCall). bit (is_at p k)) call calls in
    let there = sum_by-cons (λ (q : ℕ). bit (is_this p q)) call.place (map place_of calls) in
    let rest = count_places p calls in
    omega (arith, here, there, rest)

-- a call among calls, of which each place is there once
pub record StandsAt (calls : List PlacedCall) (call : PlacedCall) : Type 0 where
  pub below : call.place < length calls
  pub found : find (is_at call.place) calls ≡ Some call

pub stands_at : (calls first rest : List PlacedCall) (call : PlacedCall) → calls ≡ first ++ call ∷ rest → AreOnce (map place_of calls) → StandsAt calls call
stands_at calls first rest call is once =
    let split : map place_of calls ≡ map place_of first ++ call.place ∷ map place_of rest = ap (map place_of) is ∙ map-append place_of first (call ∷ rest) in
    let long : length (map place_of calls) ≡ length calls = length-map calls place_of in
    let lt : call.place < length (map place_of calls) = is_below_length (map place_of calls) (map place_of first) (map place_of rest) call.place split once in
    let one : count_by (is_at call.place) (first ++ call ∷ rest) ≡ 1 =
    ap (count_by (is_at call.place)) (sym is) ∙ count_places call.place calls ∙ once call.place lt
    in
    record {
      below = omega (arith, lt, long);
      found = ap (find (is_at call.place)) is ∙ found_once (is_at call.place) first rest call (eq-eqb call.place call.place refl) one;
    }

-- ---- histories of placed calls

placed_legal : (c : Setting) (H : History) (call : Option PlacedCall) → IsLegal c H → IsLegal c (with_placed c H call)
placed_legal c H None legal = legal
placed_legal c H (Some call) legal = (refl, legal)

pub below_legal : (c : Setting) (calls : List PlacedCall) (n : ℕ) → IsLegal c (history_below c calls n)
below_legal c calls zero = tt
below_legal c calls (suc n) = placed_legal c (history_below c calls n) (find (is_at n) calls) (below_legal c calls n)
