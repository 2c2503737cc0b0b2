-- An entry that keeps some threads apart, and what one of another thread leaves of what a history says of them.
use Rattle.std.proofs.Common.{◌≡◌, ℕ, ◌+◌, Bool, true, false, ◌==◌, ◌&&◌, ◌||◌, not, List, [], ◌∷◌, Some, refl, ap, sym, ◌∙◌, inl, inr}
use Rattle.std.proofs.lemmas.Bool.{eqb-true, and_parts, and_right, or_from, cases_Bool, cond_both, false_from_ne_true, false≢true}
use Rattle.std.specs.Prelude.{if◌then◌else◌, nat_lt}
use Rattle.mask_compose.specs.Parts.{Parts}
use Rattle.mask_compose.specs.Offer.{Offered}
use Rattle.generations.proofs.Numbering.{with_other}
use Rattle.generations.proofs.Free.{free_row_alike}
use Rattle.lc_base.specs.declared.handle.Handle.{Handle}
use Rattle.lc_base.specs.declared.handle.Named.{Named}
use Rattle.handle_table.specs.Numbers.{object_handles}
use Rattle.handle_table.specs.Entry.{Op, New, Free, Use, Hold, Release, SetGlobal, Install, End, Entry, History, Setting, names, is_accepted}
use Rattle.handle_table.specs.Shelf.{offer_after, shelf, installs_after, installs}
use Rattle.handle_table.specs.History.{handle_made, makes_handle, made, op_frees, frees_handle, live, makings, handles, sets_after, sets, global_after, global, object, selection_after, selection, holding_after, holding, pins, objects, free_row, handle_named, posted}
use Rattle.handle_table.specs.Answer.{IsLegal, own}
use Rattle.handle_table.specs.Table.{has_base}
use Rattle.handle_table.specs.Isolation.{has_thread, named_by, fetched_from, is_owned, is_own, is_own_cell, keeps_apart, IsClosed, is_for_all}
use Rattle.handle_table.proofs.Numbering.{new_entry, maker_owns}
use Rattle.handle_table.proofs.Gone.{names_handle}
use Rattle.handle_table.proofs.Pinned.{bit, ways, sum_same, pins_counted}
use Rattle.handle_table.proofs.Changes.{selection_of_other, holding_of_other, posted_of_other, own_of_other, object_unmade, same_either}

-- ---- what an entry names

-- a thread of the set is not one outside of it
pub is_another : (S : List ℕ) (w t : ℕ) → has_thread S w ≡ false → has_thread S t ≡ true → w ≡ t → ⊥
is_another S w t outside inside same = false≢true (sym outside ∙ ap (has_thread S) same ∙ inside)

-- an entry of a thread of the set names its handles and fetches from its cells alone
pub apart_inside : (S : List ℕ) (e : Entry) → keeps_apart S e ≡ true → has_thread S e.who ≡ true
    → (is_own S (named_by e.op) ≡ true) × (is_own_cell S (fetched_from e.op) ≡ true)
apart_inside S e apart inside =
    and_parts (is_own S (named_by e.op)) (is_own_cell S (fetched_from e.op))
    (sym (ap (λ b. if b then is_own S (named_by e.op) && is_own_cell S (fetched_from e.op) else not (is_owned S (named_by e.op))) inside) ∙ apart)

not_so : (b : Bool) → not b ≡ true → b ≡ false
not_so true p = absurd (cc p)
not_so false p = refl

-- an entry of another thread names none of its handles
pub apart_outside : (S : List ℕ) (e : Entry) → keeps_apart S e ≡ true → has_thread S e.who ≡ false → is_owned S (named_by e.op) ≡ false
apart_outside S e apart outside =
    not_so (is_owned S (named_by e.op))
    (sym (ap (λ b. if b then is_own S (named_by e.op) && is_own_cell S (fetched_from e.op) else not (is_owned S (named_by e.op))) outside) ∙ apart)

-- a name that is no handle of the set is not that of one
unnamed : (S : List ℕ) (n : Named) (h : Handle) → is_owned S (handle_named n) ≡ false → has_thread S h.owner ≡ true → names n h ≡ false
unnamed S n h none owned =
    false_from_ne_true (names n h) (λ is.
    false≢true (sym none ∙ ap (λ x. is_owned S (handle_named x)) (names_handle n h is) ∙ owned))

unfreed : (S : List ℕ) (op : Op) (h : Handle) → is_owned S (named_by op) ≡ false → has_thread S h.owner ≡ true → op_frees op h ≡ false
unfreed S (Free n) h none owned = unnamed S n h none owned
unfreed S _ h none owned = refl

unbased : (S : List ℕ) (op : Op) (h : Handle) → is_owned S (named_by op) ≡ false → has_thread S h.owner ≡ true → has_base op h ≡ false
unbased S (New mask numbers (Some n)) h none owned = unnamed S n h none owned
unbased S _ h none owned = refl

unselected : (S : List ℕ) (op : Op) (before : Named) (h : Handle) → is_owned S (named_by op) ≡ false → has_thread S h.owner ≡ true
    → names before h ≡ false → names (selection_after op before) h ≡ false
unselected S (Use n) before h none owned un = unnamed S n h none owned
unselected S End before h none owned un = refl
unselected S _ before h none owned un = un

unheld : (S : List ℕ) (op : Op) (h : Handle) (before : Bool) → is_owned S (named_by op) ≡ false → has_thread S h.owner ≡ true
    → before ≡ false → holding_after op h before ≡ false
unheld S (Hold n) h before none owned un = or_from (names n h) before (unnamed S n h none owned) un
unheld S (Release n) h before none owned un = and_right (not (names n h)) before un
unheld S End h before none owned un = refl
unheld S _ h before none owned un = un

-- ---- threads outside of the set, and its handles

-- no other thread ever selects a handle of the set
pub never_selected : (S : List ℕ) (H : History) (t : ℕ) (h : Handle) → IsClosed S H → has_thread S t ≡ false → has_thread S h.owner ≡ true
    → names (selection H t) h ≡ false
never_selected S [] t h closed outside owned = refl
never_selected S (e ∷ H) t h closed outside owned =
    let before = never_selected S H t h closed.1 outside owned in
    cond_both (e.who == t && is_accepted e.reply) (selection_after e.op (selection H t)) (selection H t) (λ n. names n h ≡ false)
    (λ is.
    let caller : e.who ≡ t = eqb-true e.who t (and_parts (e.who == t) (is_accepted e.reply) is).0 in
    unselected S e.op (selection H t) h (apart_outside S e closed.0 (ap (has_thread S) caller ∙ outside)) owned before)
    (λ is. before)

-- no other thread ever holds one
pub never_held : (S : List ℕ) (H : History) (t : ℕ) (h : Handle) → IsClosed S H → has_thread S t ≡ false → has_thread S h.owner ≡ true
    → holding H t h ≡ false
never_held S [] t h closed outside owned = refl
never_held S (e ∷ H) t h closed outside owned =
    let before = never_held S H t h closed.1 outside owned in
    cond_both (e.who == t && is_accepted e.reply) (holding_after e.op h (holding H t h)) (holding H t h) (λ b. b ≡ false)
    (λ is.
    let caller : e.who ≡ t = eqb-true e.who t (and_parts (e.who == t) (is_accepted e.reply) is).0 in
    unheld S e.op h (holding H t h) (apart_outside S e closed.0 (ap (has_thread S) caller ∙ outside)) owned before)
    (λ is. before)

-- ---- one search each: what an entry of another thread leaves

-- it makes no handle of the set
pub makes_apart : (c : Setting) (S : List ℕ) (e : Entry) (H : History) (h : Handle) → IsLegal c (e ∷ H) → has_thread S e.who ≡ false
    → has_thread S h.owner ≡ true → makes_handle e h ≡ false
makes_apart c S e H h legal outside owned =
    false_from_ne_true (makes_handle e h) (λ here. is_another S e.who h.owner outside owned (maker_owns c e H h legal here))

pub made_apart : (c : Setting) (S : List ℕ) (e : Entry) (H : History) (h : Handle) → IsLegal c (e ∷ H) → has_thread S e.who ≡ false
    → has_thread S h.owner ≡ true → made (e ∷ H) h ≡ made H h
made_apart c S e H h legal outside owned = ap (λ b. b || made H h) (makes_apart c S e H h legal outside owned)

pub live_apart : (c : Setting) (S : List ℕ) (e : Entry) (H : History) (h : Handle) → IsLegal c (e ∷ H) → keeps_apart S e ≡ true
    → has_thread S e.who ≡ false → has_thread S h.owner ≡ true → live (e ∷ H) h ≡ live H h
live_apart c S e H h legal apart outside owned =
    ap (λ b. not (frees_handle e h) && (b || live H h)) (makes_apart c S e H h legal outside owned)
    ∙ ap (λ b. not b && live H h)
    (and_right (is_accepted e.reply) (op_frees e.op h) (unfreed S e.op h (apart_outside S e apart outside) owned))

pub object_apart : (c : Setting) (S : List ℕ) (e : Entry) (H : History) (h : Handle) → IsLegal c (e ∷ H) → keeps_apart S e ≡ true
    → has_thread S e.who ≡ false → has_thread S h.owner ≡ true → object c (e ∷ H) h ≡ object c H h
object_apart c S e H h legal apart outside owned =
    object_unmade c e H h legal (makes_apart c S e H h legal outside owned) (unbased S e.op h (apart_outside S e apart outside) owned)

-- it makes no handle in a row of a thread of the set
pub handles_apart : (c : Setting) (S : List ℕ) (e : Entry) (H : History) (t r : ℕ) → IsLegal c (e ∷ H) → has_thread S e.who ≡ false
    → has_thread S t ≡ true → handles (e ∷ H) t r ≡ handles H t r
handles_apart c S e H t r legal outside inside =
    with_other object_handles (makings H) e.who t r (handle_made e.op e.reply) (handles H t r) (new_entry c e H legal).1 (is_another S e.who t outside inside)

pub selection_apart : (S : List ℕ) (e : Entry) (H : History) (t : ℕ) → has_thread S e.who ≡ false → has_thread S t ≡ true
    → selection (e ∷ H) t ≡ selection H t
selection_apart S e H t outside inside = selection_of_other e H t (is_another S e.who t outside inside)

pub own_apart : (S : List ℕ) (e : Entry) (H : History) (t : ℕ) → has_thread S e.who ≡ false → has_thread S t ≡ true → own (e ∷ H) t ≡ own H t
own_apart S e H t outside inside = own_of_other e H t (is_another S e.who t outside inside)

pub holding_apart : (S : List ℕ) (e : Entry) (H : History) (t : ℕ) (h : Handle) → has_thread S e.who ≡ false → has_thread S t ≡ true
    → holding (e ∷ H) t h ≡ holding H t h
holding_apart S e H t h outside inside = holding_of_other e H t h (is_another S e.who t outside inside)

pub posted_apart : (S : List ℕ) (e : Entry) (H : History) (t k : ℕ) → has_thread S e.who ≡ false → has_thread S t ≡ true
    → posted (e ∷ H) t k ≡ posted H t k
posted_apart S e H t k outside inside = posted_of_other e H t k (is_another S e.who t outside inside)

-- ---- one search each: pins and free rows, where the threads of two histories hold on to the handles of the set alike

-- each thread holds on to each handle of the set alike: one of the set as the histories say, and no other does
pub record HoldOnAlike (S : List ℕ) (G H : History) : Type 0 where
  pub selection : (t : ℕ) → has_thread S t ≡ true → selection G t ≡ selection H t
  pub holding : (t : ℕ) (h : Handle) → has_thread S t ≡ true → holding G t h ≡ holding H t h

ways_alike : (S : List ℕ) (G H : History) (t : ℕ) (h : Handle) → HoldOnAlike S G H → IsClosed S G → IsClosed S H → has_thread S h.owner ≡ true
    → ways G h t ≡ ways H h t
ways_alike S G H t h alike closed_g closed_h owned =
    elim (cases_Bool (has_thread S t)) [
      | inl inside ↦
          ap (λ n. bit (names n h) + bit (holding G t h)) (alike.selection t inside)
          ∙ ap (λ b. bit (names (selection H t) h) + bit b) (alike.holding t h inside)
      | inr outside ↦
          ap (λ b. bit b + bit (holding G t h)) (never_selected S G t h closed_g outside owned ∙ sym (never_selected S H t h closed_h outside owned))
          ∙ ap (λ b. bit (names (selection H t) h) + bit b) (never_held S G t h closed_g outside owned ∙ sym (never_held S H t h closed_h outside owned))
    ]

pub pins_alike : (c : Setting) (S : List ℕ) (G H : History) (h : Handle) → HoldOnAlike S G H → IsClosed S G → IsClosed S H
    → has_thread S h.owner ≡ true → pins c G h ≡ pins c H h
pins_alike c S G H h alike closed_g closed_h owned =
    pins_counted c G h
    ∙ sum_same (ways G h) (ways H h) c.threads (λ t lt. ways_alike S G H t h alike closed_g closed_h owned)
    ∙ sym (pins_counted c H h)

pub free_alike : (c : Setting) (G H : History) (t : ℕ) → ((r : ℕ) → handles G t r ≡ handles H t r)
    → ((h : Handle) → h.owner ≡ t → (live G h ≡ live H h) × (pins c G h ≡ pins c H h)) → free_row c G t ≡ free_row c H t
free_alike c G H t same kept =
    free_row_alike (objects c) G H t same (λ h owns.
    let alike = kept h owns in
    ap (λ b. b || nat_lt 0 (pins c G h)) alike.0 ∙ ap (λ n. live H h || nat_lt 0 n) alike.1)

-- ---- one search each: what all threads see is left by what is no SetGlobal and no Install

shelf_as_before : (op : Op) (n : ℕ) (before : Offered) → is_for_all op ≡ false → offer_after op n before ≡ before
shelf_as_before (Install m offer) n before own = absurd (cc own)
shelf_as_before _ n before own = refl

pub shelf_apart : (c : Setting) (e : Entry) (H : History) (n : ℕ) → is_for_all e.op ≡ false → shelf c (e ∷ H) n ≡ shelf c H n
shelf_apart c e H n own =
    ap (λ o. if is_accepted e.reply then o else shelf c H n) (shelf_as_before e.op n (shelf c H n) own)
    ∙ same_either (is_accepted e.reply) (shelf c H n)

installs_as_before : (op : Op) (before : ℕ) → is_for_all op ≡ false → installs_after op before ≡ before
installs_as_before (Install m offer) before own = absurd (cc own)
installs_as_before _ before own = refl

pub installs_apart : (e : Entry) (H : History) → is_for_all e.op ≡ false → installs (e ∷ H) ≡ installs H
installs_apart e H own =
    ap (λ n. if is_accepted e.reply then n else installs H) (installs_as_before e.op (installs H) own)
    ∙ same_either (is_accepted e.reply) (installs H)

sets_as_before : (op : Op) (before : ℕ) → is_for_all op ≡ false → sets_after op before ≡ before
sets_as_before (SetGlobal mask numbers) before own = absurd (cc own)
sets_as_before _ before own = refl

pub sets_apart : (e : Entry) (H : History) → is_for_all e.op ≡ false → sets (e ∷ H) ≡ sets H
sets_apart e H own =
    ap (λ n. if is_accepted e.reply then n else sets H) (sets_as_before e.op (sets H) own)
    ∙ same_either (is_accepted e.reply) (sets H)

global_as_before : (c : Setting) (H : History) (op : Op) (before : Parts) → is_for_all op ≡ false → global_after c H op before ≡ before
global_as_before c H (SetGlobal mask numbers) before own = absurd (cc own)
global_as_before c H _ before own = refl

pub global_apart : (c : Setting) (e : Entry) (H : History) → is_for_all e.op ≡ false → global c (e ∷ H) ≡ global c H
global_apart c e H own =
    ap (λ o. if is_accepted e.reply then o else global c H) (global_as_before c H e.op (global c H) own)
    ∙ same_either (is_accepted e.reply) (global c H)
