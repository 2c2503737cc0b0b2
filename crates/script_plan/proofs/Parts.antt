-- Histories of threads that keep to themselves: the part of one thread, and what no entry in them does.
use Rattle.std.proofs.Common.{◌≡◌, ℕ, zero, suc, ◌<◌, ◌≤◌, Bool, true, false, cond, ◌&&◌, not, List, [], ◌∷◌, find, Option, Some, None, refl, sym, ap, ◌∙◌, arith, inl, inr}
use Rattle.std.specs.Prelude.{◌==◌, ◌⊎◌, if◌then◌else◌, All}
use Rattle.std.proofs.lemmas.Bool.{cases_lt, eqb-true, eq-eqb, le-leb, false≢true, or_cases, or_left, or_from, and_from, not_from_false}
use Rattle.std.proofs.lemmas.List.Elements.{All-nil, All-cons, All-head, All-tail, All-weaker}
use Rattle.mask_compose.specs.Parts.{Parts}
use Rattle.lc_base.specs.declared.handle.Handle.{Handle}
use Rattle.handle_table.specs.Entry.{Op, New, Dup, Free, Use, Hold, Release, SetGlobal, Install, Post, Fetch, Pins, End, Entry, History, Setting, is_accepted}
use Rattle.handle_table.specs.Shelf.{posix}
use Rattle.handle_table.specs.History.{sets_after, sets, global, global_at}
use Rattle.handle_table.specs.Answer.{entry}
use Rattle.handle_table.specs.Isolation.{has_thread, named_by, fetched_from, is_owned, is_own, is_own_cell, keeps_apart, IsClosed, is_for_all, part_of}
use Rattle.script_wishes.specs.declared.holds.OpenHold.{OpenHold}
use Rattle.script_wishes.specs.Holds.{object_held, hold_change, changed, holds_after, open_holds}
use Rattle.script_plan.specs.Prints.{PlacedCall, with_placed, history_below}
use Rattle.script_plan.proofs.GoingOn.{is_at}
use Rattle.script_plan.proofs.Lists.{IsFound, found}

-- ---- ops that keep to their thread

-- whether the op leaves nothing for other threads, takes nothing of theirs, and keeps no hold
abbrev pub is_quiet : Op → Bool
is_quiet (New mask numbers base) = true
is_quiet (Dup n) = true
is_quiet (Free n) = true
is_quiet (Use n) = true
is_quiet (Hold n) = false
is_quiet (Release n) = false
is_quiet (SetGlobal mask numbers) = false
is_quiet (Install m offer) = false
is_quiet (Post k n) = false
is_quiet (Fetch owner k) = false
is_quiet (Pins n) = true
is_quiet End = true

-- an op of a thread is quiet, and names no handle but one of the thread's own
pub record IsPrivate (t : ℕ) (op : Op) : Type 0 where
  pub own : is_own (t ∷ []) (named_by op) ≡ true
  pub quiet : is_quiet op ≡ true

abbrev pub IsPrivateEntry : Entry → Type 0
IsPrivateEntry e = IsPrivate e.who e.op

abbrev pub IsPrivateCall : PlacedCall → Type 0
IsPrivateCall call = IsPrivate call.thread call.op

pub either : {X : Type 0} (b : Bool) (x : X) → cond b x x ≡ x
either true x = refl
either false x = refl

no_fetch : (S : List ℕ) (op : Op) → is_quiet op ≡ true → is_own_cell S (fetched_from op) ≡ true
no_fetch S (Fetch owner k) quiet = absurd (false≢true quiet)
no_fetch S _ quiet = refl

not_for_all : (op : Op) → is_quiet op ≡ true → is_for_all op ≡ false
not_for_all (SetGlobal mask numbers) quiet = absurd (false≢true quiet)
not_for_all (Install m offer) quiet = absurd (false≢true quiet)
not_for_all _ quiet = refl

no_set : (op : Op) (n : ℕ) → is_quiet op ≡ true → sets_after op n ≡ n
no_set (SetGlobal mask numbers) n quiet = absurd (false≢true quiet)
no_set _ n quiet = refl

no_hold : (op : Op) (object : Option Parts) → is_quiet op ≡ true → changed [] object (hold_change op) ≡ []
no_hold (Hold n) object quiet = absurd (false≢true quiet)
no_hold (Release n) object quiet = absurd (false≢true quiet)
no_hold _ object quiet = refl

-- ---- one thread as a set

pub its_own : (t : ℕ) → has_thread (t ∷ []) t ≡ true
its_own t = or_left (t == t) false (eq-eqb t t refl)

pub thread_is : (t s : ℕ) → has_thread (t ∷ []) s ≡ true → t ≡ s
thread_is t s within = elim (or_cases (t == s) false within) [ inl is ↦ eqb-true t s is | inr is ↦ absurd (false≢true is) ]

another : (t s : ℕ) → (t == s) ≡ false → has_thread (t ∷ []) s ≡ false
another t s differs = or_from (t == s) false differs refl

not_owned : (t w : ℕ) (h : Option Handle) → (t == w) ≡ false → is_own (w ∷ []) h ≡ true → is_owned (t ∷ []) h ≡ false
not_owned t w None differs own = refl
not_owned t w (Some h) differs own = ap (has_thread (t ∷ [])) (sym (thread_is w h.owner own)) ∙ another t w differs

-- ---- such histories are closed for each thread

abbrev kept_apart : ℕ → Entry → Bool → Bool
kept_apart t e within = if within then is_own (t ∷ []) (named_by e.op) && is_own_cell (t ∷ []) (fetched_from e.op) else not (is_owned (t ∷ []) (named_by e.op))

private_apart_if : (t : ℕ) (e : Entry) (b : Bool) → (t == e.who) ≡ b → IsPrivateEntry e → keeps_apart (t ∷ []) e ≡ true
private_apart_if t e true is private =
    ap (kept_apart t e) (or_left (t == e.who) false is)
    ∙ and_from (is_own (t ∷ []) (named_by e.op)) (is_own_cell (t ∷ []) (fetched_from e.op))
    (ap (λ (s : ℕ). is_own (s ∷ []) (named_by e.op)) (eqb-true t e.who is) ∙ private.own)
    (no_fetch (t ∷ []) e.op private.quiet)
private_apart_if t e false is private =
    ap (kept_apart t e) (another t e.who is) ∙ not_from_false (is_owned (t ∷ []) (named_by e.op)) (not_owned t e.who (named_by e.op) is private.own)

pub private_apart : (t : ℕ) (e : Entry) → IsPrivateEntry e → keeps_apart (t ∷ []) e ≡ true
private_apart t e private = private_apart_if t e (t == e.who) refl private

pub private_closed : (t : ℕ) (H : History) → All IsPrivateEntry H → IsClosed (t ∷ []) H
private_closed t [] private = tt
private_closed t (e ∷ H) private = (private_apart t e (All-head IsPrivateEntry e H private), private_closed t H (All-tail IsPrivateEntry e H private))

-- ---- the part of a thread

abbrev part_if : ℕ → Entry → History → Bool → History
part_if t e H within = if within then e ∷ part_of (t ∷ []) H else part_of (t ∷ []) H

pub part_with : (t : ℕ) (e : Entry) (H : History) → (t == e.who) ≡ true → part_of (t ∷ []) (e ∷ H) ≡ e ∷ part_of (t ∷ []) H
part_with t e H is = ap (part_if t e H) (or_left (has_thread (t ∷ []) e.who) (is_for_all e.op) (or_left (t == e.who) false is))

pub part_without : (t : ℕ) (e : Entry) (H : History) → (t == e.who) ≡ false → is_quiet e.op ≡ true → part_of (t ∷ []) (e ∷ H) ≡ part_of (t ∷ []) H
part_without t e H differs quiet = ap (part_if t e H) (or_from (has_thread (t ∷ []) e.who) (is_for_all e.op) (another t e.who differs) (not_for_all e.op quiet))

-- ---- what no entry does

pub no_sets : (H : History) → All IsPrivateEntry H → sets H ≡ 0
no_sets [] private = refl
no_sets (e ∷ H) private =
    ap (λ (n : ℕ). if is_accepted e.reply then n else sets H) (no_set e.op (sets H) (All-head IsPrivateEntry e H private).quiet)
    ∙ either (is_accepted e.reply) (sets H)
    ∙ no_sets H (All-tail IsPrivateEntry e H private)

pub first_global : (c : Setting) (H : History) → global_at c H 0 ≡ posix c
first_global c [] = refl
first_global c (e ∷ H) = ap (λ (b : Bool). if b then global_at c H 0 else global c (e ∷ H)) (le-leb 0 (sets H) (omega arith)) ∙ first_global c H

no_holds_after : (e : Entry) → IsPrivateEntry e → holds_after [] e.op e.reply ≡ []
no_holds_after e private =
    ap (λ (holds : List OpenHold). if is_accepted e.reply then holds else []) (no_hold e.op (object_held e.reply) private.quiet) ∙ either (is_accepted e.reply) []

pub no_holds : (H : History) (t : ℕ) → All IsPrivateEntry H → open_holds H t ≡ []
no_holds [] t private = refl
no_holds (e ∷ H) t private =
    let before : open_holds H t ≡ [] = no_holds H t (All-tail IsPrivateEntry e H private) in
    ap (λ (holds : List OpenHold). if e.who == t then holds_after holds e.op e.reply else holds) before
    ∙ ap (λ (holds : List OpenHold). if e.who == t then holds else []) (no_holds_after e (All-head IsPrivateEntry e H private))
    ∙ either (e.who == t) []

-- ---- histories of placed calls

private_placed : (c : Setting) (H : History) (call : Option PlacedCall) (n : ℕ) → IsFound IsPrivateCall (is_at n) call → All IsPrivateEntry H → All IsPrivateEntry (with_placed c H call)
private_placed c H None n is private = private
private_placed c H (Some call) n is private = All-cons IsPrivateEntry (entry c H call.thread call.op) H is.0 private

pub private_below : (c : Setting) (calls : List PlacedCall) → All IsPrivateCall calls → (n : ℕ) → All IsPrivateEntry (history_below c calls n)
private_below c calls all zero = All-nil IsPrivateEntry
private_below c calls all (suc n) =
    private_placed c (history_below c calls n) (find (is_at n) calls) n (found IsPrivateCall (is_at n) calls all) (private_below c calls all n)

-- a call that is no call of the thread with a place from one number to below another
abbrev pub IsOutside : ℕ → ℕ → ℕ → PlacedCall → Type 0
IsOutside t low high call = call.thread ≡ t → (call.place < low) ⊎ (high ≤ call.place)

not_its_own_if : (c : Setting) (t low n : ℕ) (H : History) (call : PlacedCall) (b : Bool) → (t == call.thread) ≡ b → low ≤ n → call.place ≡ n → IsPrivateCall call → IsOutside t low (suc n) call
    → part_of (t ∷ []) (entry c H call.thread call.op ∷ H) ≡ part_of (t ∷ []) H
not_its_own_if c t low n H call true is le at private outside =
    elim (outside (sym (eqb-true t call.thread is))) [ inl below ↦ absurd (omega (arith, below, le, at)) | inr above ↦ absurd (omega (arith, above, at)) ]
not_its_own_if c t low n H call false is le at private outside = part_without t (entry c H call.thread call.op) H is private.quiet

not_its_own : (c : Setting) (t low n : ℕ) (H : History) (call : Option PlacedCall) → low ≤ n → IsFound IsPrivateCall (is_at n) call → IsFound (IsOutside t low (suc n)) (is_at n) call
    → part_of (t ∷ []) (with_placed c H call) ≡ part_of (t ∷ []) H
not_its_own c t low n H None le private outside = refl
not_its_own c t low n H (Some call) le private outside = not_its_own_if c t low n H call (t == call.thread) refl le (eqb-true call.place n private.1) private.0 outside.0

nearer : (t low n : ℕ) (call : PlacedCall) → IsOutside t low (suc n) call → IsOutside t low n call
nearer t low n call outside same = elim (outside same) [ inl below ↦ inl below | inr above ↦ inr (omega (arith, above)) ]

-- calls of other threads leave the part of a thread as it was
pub same_part : (c : Setting) (calls : List PlacedCall) (t low high : ℕ) → All IsPrivateCall calls → low ≤ high → All (IsOutside t low high) calls
    → part_of (t ∷ []) (history_below c calls high) ≡ part_of (t ∷ []) (history_below c calls low)
same_part c calls t low zero private le outside =
    let none : 0 ≡ low = omega (arith, le) in ap (λ (n : ℕ). part_of (t ∷ []) (history_below c calls n)) none
same_part c calls t low (suc n) private le outside =
    elim (cases_lt low (suc n)) [
      | inl lt ↦
          let within : low ≤ n = omega (arith, lt) in
          not_its_own c t low n (history_below c calls n) (find (is_at n) calls) within (found IsPrivateCall (is_at n) calls private) (found (IsOutside t low (suc n)) (is_at n) calls outside)
          ∙ same_part c calls t low n private within (All-weaker (IsOutside t low (suc n)) (IsOutside t low n) (nearer t low n) calls outside)
      | inr ge ↦ let same : suc n ≡ low = omega (arith, le, ge) in ap (λ (k : ℕ). part_of (t ∷ []) (history_below c calls k)) same
    ]
