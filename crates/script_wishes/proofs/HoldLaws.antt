-- A thread has an open Hold of a handle exactly where a legal history says that it holds it.
use Rattle.std.proofs.Common.{◌≡◌, ℕ, Bool, true, false, cond, not, List, [], ◌∷◌, Option, Some, None, refl, sym, ap, ◌∙◌}
use Rattle.std.specs.Prelude.{◌==◌, ◌&&◌, ◌||◌, find, option_map}
use Rattle.std.specs.List.{list_any}
use Rattle.std.specs.Option.{is_some}
use Rattle.std.proofs.Math.Bool.{or_comm}
use Rattle.std.proofs.lemmas.Bool.{false≢true}
use Rattle.std.proofs.lemmas.List.Folds.{list_any-append}
use Rattle.std.proofs.lemmas.Map.Views.{any-filter_same}
use Rattle.mask_compose.specs.Parts.{Parts}
use Rattle.lc_base.specs.declared.handle.Handle.{Handle}
use Rattle.lc_base.specs.declared.handle.Named.{Named}
use Rattle.lc_base.specs.declared.handle.Named.TheVariants.{Global, Of}
use Rattle.handle_table.specs.declared.op.Refusal.{Refusal}
use Rattle.handle_table.specs.Entry.{Op, New, Dup, Free, Use, Hold, Release, SetGlobal, Install, Post, Fetch, Pins, End, Reply, Held, History, Setting, names, same_handle, is_accepted}
use Rattle.handle_table.specs.History.{holding, holding_after, object}
use Rattle.handle_table.specs.Answer.{answer, IsLegal, unless, first_reason, reasons}
use Rattle.handle_table.proofs.Numbering.{same_handles}
use Rattle.script_wishes.specs.declared.holds.OpenHold.{OpenHold}
use Rattle.script_wishes.specs.Holds.{object_held, with_hold, without, hold_change, changed, open_holds, is_of, held_as}

abbrev of_handle : Handle → List OpenHold → Bool
of_handle h holds = list_any (is_of h) holds

-- a Hold of the handle is found where there is one
found_if : (b : Bool) (o : OpenHold) (rest : Option OpenHold) (r : Bool) → is_some (option_map (λ (x : OpenHold). x.object) rest) ≡ r
    → is_some (option_map (λ (x : OpenHold). x.object) (cond b (Some o) rest)) ≡ (b || r)
found_if true o rest r is = refl
found_if false o rest r is = is

found : (h : Handle) (holds : List OpenHold) → is_some (held_as holds (Of h)) ≡ of_handle h holds
found h [] = refl
found h (o ∷ holds) = found_if (is_of h o) o (find (is_of h) holds) (of_handle h holds) (found h holds)

-- ---- one entry

or_none : (b : Bool) → (b || false) ≡ b
or_none true = refl
or_none false = refl

one_more : (h g : Handle) (holds : List OpenHold) (object : Parts) (x : Bool) → of_handle h holds ≡ x → of_handle h (with_hold holds (Of g) (Some object)) ≡ (same_handle g h || x)
one_more h g holds object x is =
    list_any-append (is_of h) holds (record { handle = g; object = object } ∷ [])
    ∙ ap (λ (b : Bool). of_handle h holds || b) (or_none (same_handle g h))
    ∙ or_comm (of_handle h holds) (same_handle g h)
    ∙ ap (λ (b : Bool). same_handle g h || b) is

-- an accepted Hold of a handle hands its object over
handed : (refusal : Option Refusal) (o : Parts) → is_accepted (unless refusal (Held o)) ≡ true → object_held (unless refusal (Held o)) ≡ Some o
handed None o accepted = refl
handed (Some refusal) o accepted = absurd (false≢true accepted)

hold_opens : (c : Setting) (H : History) (t : ℕ) (n : Named) (h : Handle) (holds : List OpenHold) (x : Bool) → of_handle h holds ≡ x
    → is_accepted (answer c H t (Hold n)) ≡ true → of_handle h (with_hold holds n (object_held (answer c H t (Hold n)))) ≡ (names n h || x)
hold_opens c H t Global h holds x is accepted = is
hold_opens c H t (Of g) h holds x is accepted =
    ap (λ (o : Option Parts). of_handle h (with_hold holds (Of g) o)) (handed (first_reason (reasons c H t (Hold (Of g)))) (object c H g) accepted)
    ∙ one_more h g holds (object c H g) x is

release_closes : (n : Named) (h : Handle) (holds : List OpenHold) (x : Bool) → of_handle h holds ≡ x → of_handle h (without holds n) ≡ (not (names n h) && x)
release_closes n h holds x is =
    any-filter_same (is_of h) (λ (o : OpenHold). not (names n o.handle)) (not (names n h)) (λ (o : OpenHold) same. ap (λ (g : Handle). not (names n g)) (same_handles o.handle h same)) holds
    ∙ ap (λ (b : Bool). not (names n h) && b) is

accepted_changes : (c : Setting) (H : History) (t : ℕ) (op : Op) (h : Handle) (holds : List OpenHold) (x : Bool) → of_handle h holds ≡ x
    → is_accepted (answer c H t op) ≡ true → of_handle h (changed holds (object_held (answer c H t op)) (hold_change op)) ≡ holding_after op h x
accepted_changes c H t (New mask numbers base) h holds x is accepted = is
accepted_changes c H t (Dup n) h holds x is accepted = is
accepted_changes c H t (Free n) h holds x is accepted = is
accepted_changes c H t (Use n) h holds x is accepted = is
accepted_changes c H t (Hold n) h holds x is accepted = hold_opens c H t n h holds x is accepted
accepted_changes c H t (Release n) h holds x is accepted = release_closes n h holds x is
accepted_changes c H t (SetGlobal mask numbers) h holds x is accepted = is
accepted_changes c H t (Install m offer) h holds x is accepted = is
accepted_changes c H t (Post k n) h holds x is accepted = is
accepted_changes c H t (Fetch owner k) h holds x is accepted = is
accepted_changes c H t (Pins n) h holds x is accepted = is
accepted_changes c H t End h holds x is accepted = refl

-- only an accepted entry of the thread changes anything
where_changed : (own accepted : Bool) (h : Handle) (before after : List OpenHold) (x y : Bool) → of_handle h before ≡ x → (accepted ≡ true → of_handle h after ≡ y)
    → of_handle h (cond own (cond accepted after before) before) ≡ cond (own && accepted) y x
where_changed true true h before after x y is changes = changes refl
where_changed true false h before after x y is changes = is
where_changed false accepted h before after x y is changes = is

-- ---- a legal history

holds_of : (c : Setting) (H : History) → IsLegal c H → (t : ℕ) (h : Handle) → of_handle h (open_holds H t) ≡ holding H t h
holds_of c [] legal t h = refl
holds_of c (e ∷ H) legal t h =
    where_changed (e.who == t) (is_accepted e.reply) h (open_holds H t) (changed (open_holds H t) (object_held e.reply) (hold_change e.op)) (holding H t h) (holding_after e.op h (holding H t h)) (holds_of c H legal.1 t h)
    (λ accepted.
    ap (λ (r : Reply). of_handle h (changed (open_holds H t) (object_held r) (hold_change e.op))) legal.0
    ∙ accepted_changes c H e.who e.op h (open_holds H t) (holding H t h) (holds_of c H legal.1 t h) (sym (ap is_accepted legal.0) ∙ accepted))

-- what the thread keeps as held is what it holds
pub held_where_holding : (c : Setting) (H : History) → IsLegal c H → (t : ℕ) (h : Handle) → is_some (held_as (open_holds H t) (Of h)) ≡ holding H t h
held_where_holding c H legal t h = found h (open_holds H t) ∙ holds_of c H legal t h
