-- What the lines of threads that share handles with nobody print is what the part of the history says.
use Rattle.std.proofs.Common.{◌≡◌, ℕ, zero, suc, ◌<◌, ◌≤◌, Bool, true, cond, List, [], ◌∷◌, ◌++◌, length, map, find, Option, Some, None, Result, Ok, Err, refl, sym, ap, subst, ◌∙◌, arith, inl, inr, append_assoc}
use Rattle.std.specs.Prelude.{zip, All}
use Rattle.std.proofs.lemmas.Bool.{cases_lt, ne_eqb}
use Rattle.std.proofs.lemmas.List.Elements.{All-nil, All-cons, All-head, All-tail, All-weaker}
use Rattle.mask_compose.specs.Parts.{Parts}
use Rattle.lc_base.specs.declared.handle.Named.{Named}
use Rattle.handle_table.specs.Entry as table
use Rattle.handle_table.specs.Entry.{History, Setting}
use Rattle.handle_table.specs.Answer.{answer, own, IsLegal}
use Rattle.handle_table.specs.Isolation.{has_thread, part_of, IsClosed, SaysOfThreads}
use Rattle.script_words.specs.declared.categories.CategoryArgument.TheVariants.{All as AllCategories}
use Rattle.script_commands.specs.declared.command.Read.{Read}
use Rattle.script_out.specs.declared.output.OutLine.{OutLine}
use Rattle.script_out.specs.declared.output.Places.{Places}
use Rattle.script_out.specs.declared.output.Places.TheVariants as places
use Rattle.script_out.specs.declared.output.Said.TheVariants as said
use Rattle.script_out.specs.declared.output.Why.{Why}
use Rattle.script_plan.specs.Plan.{PlanData, books_of}
use Rattle.script_wishes.specs.Holds.{object_held, open_holds, held_as}
use Rattle.script_plan.specs.Isolation.{all_task_lines, all_calls, front, whole, SaysTheSameTo, apart, AreAnsweredApart, IsIsolated, AreCatalogsIsolated}
use Rattle.script_lines.specs.Lines.{Caller, plain_line, placed_line, global_read_line, global_name_line}
use Rattle.script_plan.specs.Prints.{TaskLine, bound_by, places_in, all_places, before_round, up_to_round, PlacedCall, call_of, calls_of, calls_after, with_placed, history_below, Around, around, past, next_place, seen, place_behind, IsUpToPlace, IsVersion, global_of, IsReadBetween, IsHoldRefused, IsReadOf, IsRead, IsGranted, AreAnswered, caller_of, Prints, IsOpenOf, IsOpenBy, IsOpen}
use Rattle.script_wishes.specs.Variables.{bindings_of}
use Rattle.script_wishes.specs.Wishes.{Wish, Calls, ReadsOf, Reads, AsksSelection, AsksName, wish_of, ops_of, OpensCatalog, GetsMessage, ClosesCatalog}
use Rattle.handle_table.proofs.Isolated.{part_legal, answer_apart, says_part}
use Rattle.catalog_handles.proofs.Apart.{part_legal as catalog_part_legal}
use Rattle.script_plan.proofs.Fronts.{part_says_the_same}
use Rattle.script_plan.proofs.LineLists.{all_left, all_right}
use Rattle.script_plan.proofs.PlacedCalls.{place_of, places_of_calls, AreOnce, StandsAt, stands_at, below_legal}
use Rattle.script_plan.proofs.GoingOn.{below_on, GoesOnFrom, is_at, wished_calls}
use Rattle.script_lines.specs.Catalogs.{book_for, catalog_setting}
use Rattle.catalog_handles.specs.Entry.{History as CatalogHistory}

-- ---- each call of the threads gets the answer of the part

-- the answer to a call of the threads at its place is that of the part
abbrev AgreesApart : List ℕ → Setting → (ℕ → History) → PlacedCall → Type 0
AgreesApart threads c history call = has_thread threads call.thread ≡ true → answer c (history call.place) call.thread call.op ≡ answer c (part_of threads (history call.place)) call.thread call.op

closed_back : (threads : List ℕ) (E H : History) → IsClosed threads (E ++ H) → IsClosed threads H
closed_back threads [] H closed = closed
closed_back threads (e ∷ E) H closed = closed_back threads E H closed.1

call_apart : (threads : List ℕ) (c : Setting) (calls first rest : List PlacedCall) (call : PlacedCall) → calls ≡ first ++ call ∷ rest → AreOnce (map place_of calls)
    → IsClosed threads (history_below c calls (length calls)) → AgreesApart threads c (history_below c calls) call
call_apart threads c calls first rest call is once closed within =
    let H : History = history_below c calls call.place in
    let stands : StandsAt calls call = stands_at calls first rest call is once in
    let lt : call.place < length calls = stands.below in
    let on : GoesOnFrom (history_below c calls (suc call.place)) (history_below c calls (length calls)) = below_on c calls (suc call.place) (length calls) (omega (arith, lt)) in
    let here : IsClosed threads (history_below c calls (suc call.place)) =
    closed_back threads on.more (history_below c calls (suc call.place)) (subst (IsClosed threads) on.is closed)
    in
    answer_apart c threads H call.thread call.op (below_legal c calls call.place) within (subst (λ (o : Option PlacedCall). IsClosed threads (with_placed c H o)) stands.found here)

each_split : (P : PlacedCall → Type 0) (before calls : List PlacedCall) → ((first rest : List PlacedCall) (call : PlacedCall) → before ++ calls ≡ first ++ call ∷ rest → P call) → All P calls
each_split P before [] each = All-nil P
each_split P before (call ∷ calls) each =
    All-cons P call calls (each before calls call refl)
    (each_split P (before ++ call ∷ []) calls (λ first rest k is. each first rest k (sym (append_assoc before (call ∷ []) calls) ∙ is)))

calls_apart : (threads : List ℕ) (c : Setting) (calls : List PlacedCall) → AreOnce (map place_of calls) → IsClosed threads (history_below c calls (length calls))
    → All (AgreesApart threads c (history_below c calls)) calls
calls_apart threads c calls once closed = each_split (AgreesApart threads c (history_below c calls)) [] calls (λ first rest call is. call_apart threads c calls first rest call is once closed)

-- ---- each front is closed

places_below : (calls : List PlacedCall) → AreOnce (map place_of calls) → All (λ (call : PlacedCall). call.place < length calls) calls
places_below calls once = each_split (λ (call : PlacedCall). call.place < length calls) [] calls (λ first rest call is. (stands_at calls first rest call is once).below)

none_behind : (n : ℕ) (calls : List PlacedCall) → All (λ (call : PlacedCall). call.place < n) calls → find (is_at n) calls ≡ None
none_behind n [] below = refl
none_behind n (call ∷ calls) below =
    let lt : call.place < n = All-head (λ (k : PlacedCall). k.place < n) call calls below in
    ap (λ (b : Bool). cond b (Some call) (find (is_at n) calls)) (ne_eqb call.place n (λ same. omega (arith, same, lt)))
    ∙ none_behind n calls (All-tail (λ (k : PlacedCall). k.place < n) call calls below)

each_closed : (threads : List ℕ) (c : Setting) (calls : List PlacedCall) → AreOnce (map place_of calls) → IsClosed threads (history_below c calls (length calls)) → (n : ℕ) → IsClosed threads (history_below c calls n)
each_closed threads c calls once closed zero = tt
each_closed threads c calls once closed (suc n) =
    elim (cases_lt n (length calls)) [
      | inl lt ↦
          let on : GoesOnFrom (history_below c calls (suc n)) (history_below c calls (length calls)) = below_on c calls (suc n) (length calls) (omega (arith, lt)) in
          closed_back threads on.more (history_below c calls (suc n)) (subst (IsClosed threads) on.is closed)
      | inr ge ↦
          let none : find (is_at n) calls ≡ None =
          none_behind n calls (All-weaker (λ (k : PlacedCall). k.place < length calls) (λ (k : PlacedCall). k.place < n) (λ k lt. omega (arith, lt, ge)) calls (places_below calls once))
          in
          subst (λ (o : Option PlacedCall). IsClosed threads (with_placed c (history_below c calls n) o)) (sym none) (each_closed threads c calls once closed n)
    ]

-- ---- one line

-- what is known of the parts, for a line of one of the threads
pub record Parted (threads : List ℕ) (x : Around) (at : Caller) (l : OutLine) (w : Result Wish Why) : Type 0 where
  pub within : has_thread threads at.thread ≡ true
  pub legal : (n : ℕ) → IsLegal x.setting (past x n)
  pub closed : (n : ℕ) → IsClosed threads (past x n)
  pub whole : (version : ℕ) → global_of x version ≡ global_of (apart threads x) version
  pub agree : All (AgreesApart threads x.setting x.history) (wished_calls at.thread (places_in l.places) w)

says : {threads : List ℕ} {x : Around} {at : Caller} {l : OutLine} {w : Result Wish Why} → Parted threads x at l w → (n : ℕ) → SaysTheSameTo x.setting at.thread (past x n) (past (apart threads x) n)
says {threads} {x} {at} p n = part_says_the_same x.setting threads at.thread p.within (past x n) (p.legal n) (p.closed n)

up_to_apart : {threads : List ℕ} {x : Around} {at : Caller} {l : OutLine} {w : Result Wish Why} (p : Parted threads x at l w) (version : ℕ) (place : Option ℕ) → IsUpToPlace x version place → IsUpToPlace (apart threads x) version place
up_to_apart p version None up = tt
up_to_apart p version (Some place) up = subst (λ (n : ℕ). version ≤ n) (says p place).sets up

version_apart : {threads : List ℕ} {x : Around} {at : Caller} {l : OutLine} {w : Result Wish Why} (p : Parted threads x at l w) (version : ℕ) → IsVersion x at version → IsVersion (apart threads x) at version
version_apart {threads} {x} {at} p version v = record {
  seen = subst (λ (n : ℕ). n ≤ version) (says p (next_place at.thread x.before)).sets v.seen;
  rounds = subst (λ (n : ℕ). n ≤ version) (says p (length (all_places (before_round at.round x.lines)))).sets v.rounds;
  next = up_to_apart p version (place_behind x at.thread) v.next;
  round = subst (λ (n : ℕ). version ≤ n) (says p (length (all_places (up_to_round at.round x.lines)))).sets v.round;
  printed = v.printed;
  printed_earlier = v.printed_earlier;
}

-- the answer of the part to the call of a line with one place
one_apart : (threads : List ℕ) (x : Around) (at : Caller) (l m : OutLine) (w : Result Wish Why) (place : ℕ) (op : table.Op) (others : List table.Op) → Parted threads x at l w → l ≡ m → m.places ≡ places.One place → ops_of w ≡ op ∷ others
    → answer x.setting (past x place) at.thread op ≡ answer x.setting (past (apart threads x) place) at.thread op
one_apart threads x at l m w place op others p is one ops =
    let places : l.places ≡ places.One place = ap (λ (k : OutLine). k.places) is ∙ one in
    let calls : wished_calls at.thread (places_in l.places) w ≡ call_of at.thread (place, op) ∷ [] =
    ap (λ (q : Places). wished_calls at.thread (places_in q) w) places ∙ ap (λ (os : List table.Op). map (call_of at.thread) (zip (place ∷ []) os)) ops
    in
    All-head (AgreesApart threads x.setting x.history) (call_of at.thread (place, op)) [] (subst (All (AgreesApart threads x.setting x.history)) calls p.agree) p.within

between_apart : (threads : List ℕ) (x : Around) (at : Caller) (l : OutLine) (n : Named) (read : Read) → Parted threads x at l (Ok (ReadsOf n read)) → IsReadBetween x at l n read → IsReadBetween (apart threads x) at l n read
between_apart threads x at l n read p r =
    let Agrees : PlacedCall → Type 0 = AgreesApart threads x.setting x.history in
    let hold : PlacedCall = call_of at.thread (r.hold, table.Hold n) in
    let release : PlacedCall = call_of at.thread (r.release, table.Release n) in
    let agree : All Agrees (hold ∷ release ∷ []) = subst (λ (k : OutLine). All Agrees (wished_calls at.thread (places_in k.places) (Ok (ReadsOf n read)))) r.is p.agree in
    record {
      hold = r.hold;
      release = r.release;
      object = r.object;
      held = ap object_held (sym (All-head Agrees hold (release ∷ []) agree p.within)) ∙ r.held;
      released = sym (All-head Agrees release [] (All-tail Agrees hold (release ∷ []) agree) p.within) ∙ r.released;
      is = r.is;
    }

refused_apart : (threads : List ℕ) (x : Around) (at : Caller) (l : OutLine) (n : Named) (read : Read) → Parted threads x at l (Ok (ReadsOf n read)) → IsHoldRefused x at l n → IsHoldRefused (apart threads x) at l n
refused_apart threads x at l n read p r =
    let agree = one_apart threads x at l (placed_line x.plan.library r.place at AllCategories (answer x.setting (past x r.place) at.thread (table.Hold n))) (Ok (ReadsOf n read)) r.place (table.Hold n) (table.Release n ∷ []) p r.is refl refl in
    record {
      place = r.place;
      held = ap object_held (sym agree) ∙ r.held;
      is = r.is ∙ ap (placed_line x.plan.library r.place at AllCategories) agree;
    }

of_apart : (threads : List ℕ) (x : Around) (at : Caller) (l : OutLine) (n : Named) (read : Read) (held : Option Parts) → Parted threads x at l (Ok (ReadsOf n read)) → IsReadOf x at l n read held → IsReadOf (apart threads x) at l n read held
of_apart threads x at l n read (Some object) p is = is
of_apart threads x at l n read None p (inl r) = inl (between_apart threads x at l n read p r)
of_apart threads x at l n read None p (inr r) = inr (refused_apart threads x at l n read p r)

read_apart : (threads : List ℕ) (x : Around) (at : Caller) (l : OutLine) (read : Read) (object : Option Parts) → Parted threads x at l (Ok (Reads read)) → IsRead x at l read object → IsRead (apart threads x) at l read object
read_apart threads x at l read (Some object) p is = is
read_apart threads x at l read None p r = record {
  version = r.version;
  bounds = version_apart p r.version r.bounds;
  is = r.is ∙ ap (global_read_line x.plan.library at read r.version) (p.whole r.version);
}

open_apart : (threads : List ℕ) (x : Around) (at : Caller) (l : OutLine) (version n : Option ℕ) → IsOpenOf x at l version n → IsOpenOf (apart threads x) at l version n
open_apart threads x at l version None is = is
open_apart threads x at l version (Some n) r = record { asked = r.asked; stands = r.stands; is = r.is }

opens_apart : (threads : List ℕ) (x : Around) (at : Caller) (l : OutLine) (name : List ℕ) (object : Option Parts) → Parted threads x at l (Ok (OpensCatalog name)) → IsOpen x at l name object → IsOpen (apart threads x) at l name object
opens_apart threads x at l name (Some object) p is = open_apart threads x at l None (book_for x.plan.library (books_of x.plan) object name) is
opens_apart threads x at l name None p r = record {
  version = r.version;
  bounds = version_apart p r.version r.bounds;
  opens =
      subst (λ (o : Parts). IsOpenBy (apart threads x) at l (Some r.version) name o) (p.whole r.version)
      (open_apart threads x at l (Some r.version) (book_for x.plan.library (books_of x.plan) (global_of x r.version) name) r.opens);
}

granted_apart : (threads : List ℕ) (x : Around) (at : Caller) (l : OutLine) (w : Result Wish Why) → Parted threads x at l w → IsGranted x at l w → IsGranted (apart threads x) at l w
granted_apart threads x at l (Err why) p is = is
granted_apart threads x at l (Ok (Calls categories op)) p r = record {
  place = r.place;
  is =
      r.is
      ∙ ap (placed_line x.plan.library r.place at categories)
      (one_apart threads x at l (placed_line x.plan.library r.place at categories (answer x.setting (past x r.place) at.thread op)) (Ok (Calls categories op)) r.place op [] p r.is refl refl);
}
granted_apart threads x at l (Ok (ReadsOf n read)) p is =
    let t : ℕ = at.thread in
    let same : held_as (open_holds (seen x t) t) n ≡ held_as (open_holds (seen (apart threads x) t) t) n = ap (λ holds. held_as holds n) (says p (next_place t x.before)).holds in
    of_apart threads x at l n read (held_as (open_holds (seen (apart threads x) t) t) n) p (subst (IsReadOf x at l n read) same is)
granted_apart threads x at l (Ok (Reads read)) p is =
    let t : ℕ = at.thread in
    read_apart threads x at l read (own (seen (apart threads x) t) t) p (subst (IsRead x at l read) (says p (next_place t x.before)).own is)
granted_apart threads x at l (Ok AsksSelection) p is =
    is ∙ ap (λ (n : Named). plain_line at (said.Is n)) (says p (next_place at.thread x.before)).selection
granted_apart threads x at l (Ok (AsksName categories)) p r = record {
  version = r.version;
  bounds = version_apart p r.version r.bounds;
  is = r.is ∙ ap (global_name_line x.plan.library at categories r.version) (p.whole r.version);
}
granted_apart threads x at l (Ok (OpensCatalog name)) p is =
    let t : ℕ = at.thread in
    opens_apart threads x at l name (own (seen (apart threads x) t) t) p (subst (IsOpen x at l name) (says p (next_place t x.before)).own is)
granted_apart threads x at l (Ok (GetsMessage h set message default)) p r = record { asked = r.asked; stands = r.stands; is = r.is }
granted_apart threads x at l (Ok (ClosesCatalog h)) p r = record { asked = r.asked; stands = r.stands; is = r.is }

-- ---- all lines

module _ (threads : List ℕ) (c : Setting) (plan : PlanData) (lines : List OutLine) (M : CatalogHistory) (calls : List PlacedCall) (once : AreOnce (map place_of calls)) (closed : IsClosed threads (history_below c calls (length calls))) where
  are_answered_apart : (before after : List TaskLine) → AreAnswered c plan lines M calls before after → All (AgreesApart threads c (history_below c calls)) (calls_after plan.library before after)
      → AreAnsweredApart threads c plan lines M calls before after
  are_answered_apart before [] answered agree = tt
  are_answered_apart before (d ∷ after) answered agree =
      let Agrees : PlacedCall → Type 0 = AgreesApart threads c (history_below c calls) in
      let here : List PlacedCall = calls_of plan.library (bound_by before) d in
      let rest : List PlacedCall = calls_after plan.library (d ∷ before) after in
      let x : Around = around c plan lines M calls before after in
      let says : SaysOfThreads c threads (part_of threads x.whole) x.whole = says_part c threads x.whole (below_legal c calls (length calls)) closed in (
        λ within.
            granted_apart threads x (caller_of d.line) d.line (wish_of plan.library (bindings_of d.line.thread (bound_by before)) d.task)
            (record {
              within = within;
              legal = below_legal c calls;
              closed = each_closed threads c calls once closed;
              whole = λ version. sym (says.versions version);
              agree = all_left Agrees here rest agree;
            })
            answered.0,
        are_answered_apart (d ∷ before) after answered.1 (all_right Agrees here rest agree),
      )

-- threads that share handles with nobody read what they would read without the others
pub isolated : (c : Setting) (plan : PlanData) (lines : List OutLine) → Prints c plan lines → IsIsolated c plan lines
isolated c plan lines w threads closed =
    let calls : List PlacedCall = all_calls c plan lines in
    let once : AreOnce (map place_of calls) = subst AreOnce (sym (places_of_calls c plan lines w)) w.placed.once in
    record {
      legal = part_legal c threads (whole c plan lines) (below_legal c calls (length calls)) closed;
      fronts = λ n le t within. part_says_the_same c threads t within (front c plan lines n) (below_legal c calls n) (each_closed threads c calls once closed n);
      answered = λ printed. are_answered_apart threads c plan lines printed.catalogs calls once closed [] (all_task_lines c plan lines) printed.answered (calls_apart threads c calls once closed);
    }

-- threads that share catalog handles with nobody have the replies that they would have without the others
pub catalogs_isolated : (c : Setting) (plan : PlanData) (lines : List OutLine) → AreCatalogsIsolated c plan lines
catalogs_isolated c plan lines w threads closed = catalog_part_legal (catalog_setting c) threads w.catalogs w.catalogs_placed.legal closed
