-- A handle that is neither live nor held on to stays so; of a row's handles only the newest is live or held on to.
use Rattle.std.proofs.Common.{◌≡◌, ℕ, ◌<◌, ◌⊎◌, Bool, true, false, ◌==◌, ◌&&◌, ◌||◌, not, List, [], ◌∷◌, Option, None, Some, refl, ap, sym, ◌∙◌, inl, inr}
use Rattle.std.proofs.lemmas.Bool.{and_parts, and_right, or_from, or_cases, or_left, or_right, cases_Bool, false_from_ne_true, false≢true}
use Rattle.std.specs.Prelude.{if◌then◌else◌}
use Rattle.lc_base.specs.declared.handle.Handle.{Handle}
use Rattle.lc_base.specs.declared.handle.Named.{Named}
use Rattle.lc_base.specs.declared.handle.Named.TheVariants.{Global, Of}
use Rattle.handle_table.specs.declared.op.Refusal.{Refusal}
use Rattle.handle_table.specs.declared.op.Refusal.TheVariants.{NeverMade, Stale}
use Rattle.handle_table.specs.Entry.{Op, New, Dup, Free, Use, Hold, Release, SetGlobal, Post, Fetch, Pins, End, Install, Reply, Entry, History, Setting, names, is_accepted}
use Rattle.handle_table.specs.History.{makes_handle, made, frees_handle, live, selection, selection_after, holding, holding_after}
use Rattle.handle_table.specs.Answer.{global_handle, never_made, stale, already_held, first_reason, reasons, unless, reply_to, answer, IsLegal}
use Rattle.handle_table.proofs.Numbering.{same_handles, made_once}

-- no thread holds on to the handle, and it is not live
abbrev pub IsGone : Setting → History → Handle → Type 0
IsGone c H h = (live H h ≡ false) × ((t : ℕ) → t < c.threads → (names (selection H t) h ≡ false) × (holding H t h ≡ false))

-- a name of a handle is that of this one
pub names_handle : (n : Named) (h : Handle) → names n h ≡ true → n ≡ Of h
names_handle Global h p = absurd (cc p)
names_handle (Of g) h p = ap (λ x. Of x) (same_handles g h p)

-- an accepted reply comes where nothing is against what the op names
pub unrefused : (refusal : Option Refusal) (reply : Reply) → is_accepted (unless refusal reply) ≡ true → refusal ≡ None
unrefused (Some refusal) reply p = absurd (cc p)
unrefused None reply p = refl

-- where no reason is there, the first is not, and none of the others
pub no_reason : (o : Option Refusal) (os : List (Option Refusal)) → first_reason (o ∷ os) ≡ None → (o ≡ None) × (first_reason os ≡ None)
no_reason None os p = (refl, p)
no_reason (Some refusal) os p = absurd (cc p)

unless_made : (b : Bool) (refusal : Refusal) → (if b then None else Some refusal) ≡ None → b ≡ true
unless_made true refusal p = refl
unless_made false refusal p = absurd (cc p)

unless_stale : (a b : Bool) (refusal : Refusal) → (if a && not b then Some refusal else None) ≡ None → a ≡ true → b ≡ true
unless_stale true true refusal p q = refl
unless_stale true false refusal p q = absurd (cc p)
unless_stale false b refusal p q = absurd (cc q)

-- where a name is neither never made nor stale, its handle was made and is live
pub not_refused : (H : History) (n : Named) (h : Handle) → never_made H n ≡ None → stale H n ≡ None → names n h ≡ true
    → (made H h ≡ true) × (live H h ≡ true)
not_refused H n h before fresh is =
    let same = names_handle n h is in
    let was = unless_made (made H h) NeverMade (sym (ap (never_made H) same) ∙ before) in
    (was, unless_stale (made H h) (live H h) Stale (sym (ap (stale H) same) ∙ fresh) was)

-- what a thread selects is live then
pub used_live : (c : Setting) (H : History) (t : ℕ) (n : Named) (h : Handle) → is_accepted (answer c H t (Use n)) ≡ true → names n h ≡ true
    → (made H h ≡ true) × (live H h ≡ true)
used_live c H t n h accepted is =
    let none = unrefused (first_reason (reasons c H t (Use n))) (reply_to c H t (Use n)) accepted in
    let first = no_reason (never_made H n) (stale H n ∷ []) none in
    let second = no_reason (stale H n) [] first.1 in
    not_refused H n h first.0 second.0 is

-- what a thread begins to hold is live then
pub held_live : (c : Setting) (H : History) (t : ℕ) (n : Named) (h : Handle) → is_accepted (answer c H t (Hold n)) ≡ true → names n h ≡ true
    → (made H h ≡ true) × (live H h ≡ true)
held_live c H t n h accepted is =
    let none = unrefused (first_reason (reasons c H t (Hold n))) (reply_to c H t (Hold n)) accepted in
    let first = no_reason (global_handle n) (never_made H n ∷ stale H n ∷ already_held H t n ∷ []) none in
    let second = no_reason (never_made H n) (stale H n ∷ already_held H t n ∷ []) first.1 in
    let third = no_reason (stale H n) (already_held H t n ∷ []) second.1 in
    not_refused H n h second.0 third.0 is

-- what a thread selects after its accepted op was selected before, or is live
selected_after : (c : Setting) (H : History) (t : ℕ) (op : Op) (before : Named) (h : Handle) → is_accepted (answer c H t op) ≡ true
    → names (selection_after op before) h ≡ true → (names before h ≡ true) ⊎ ((made H h ≡ true) × (live H h ≡ true))
selected_after c H t (Use n) before h accepted is = inr (used_live c H t n h accepted is)
selected_after c H t End before h accepted is = absurd (cc is)
selected_after c H t (New mask numbers base) before h accepted is = inl is
selected_after c H t (Dup n) before h accepted is = inl is
selected_after c H t (Free n) before h accepted is = inl is
selected_after c H t (Hold n) before h accepted is = inl is
selected_after c H t (Release n) before h accepted is = inl is
selected_after c H t (SetGlobal mask numbers) before h accepted is = inl is
selected_after c H t (Post k n) before h accepted is = inl is
selected_after c H t (Fetch owner k) before h accepted is = inl is
selected_after c H t (Pins n) before h accepted is = inl is
selected_after c H t (Install name offer) before h accepted is = inl is

holding_since : (c : Setting) (H : History) (t : ℕ) (op : Op) (before : Bool) (h : Handle) → is_accepted (answer c H t op) ≡ true
    → holding_after op h before ≡ true → (before ≡ true) ⊎ ((made H h ≡ true) × (live H h ≡ true))
holding_since c H t (Hold n) before h accepted is =
    elim (or_cases (names n h) before is) [
      | inl here ↦ inr (held_live c H t n h accepted here)
      | inr earlier ↦ inl earlier
    ]
holding_since c H t (Release n) before h accepted is = inl (and_parts (not (names n h)) before is).1
holding_since c H t End before h accepted is = absurd (cc is)
holding_since c H t (New mask numbers base) before h accepted is = inl is
holding_since c H t (Dup n) before h accepted is = inl is
holding_since c H t (Free n) before h accepted is = inl is
holding_since c H t (Use n) before h accepted is = inl is
holding_since c H t (SetGlobal mask numbers) before h accepted is = inl is
holding_since c H t (Post k n) before h accepted is = inl is
holding_since c H t (Fetch owner k) before h accepted is = inl is
holding_since c H t (Pins n) before h accepted is = inl is
holding_since c H t (Install name offer) before h accepted is = inl is

-- where a thread selects a handle after an entry, it did so before, or the handle is live
pub selected_since : (c : Setting) (e : Entry) (H : History) (t : ℕ) (h : Handle) → IsLegal c (e ∷ H) → names (selection (e ∷ H) t) h ≡ true
    → (names (selection H t) h ≡ true) ⊎ ((made H h ≡ true) × (live H h ≡ true))
selected_since c e H t h legal is =
    let b : Bool = e.who == t && is_accepted e.reply in
    elim (cases_Bool b) [
      | inr fails ↦ inl (ap (λ v. names (if v then selection_after e.op (selection H t) else selection H t) h) (sym fails) ∙ is)
      | inl holds ↦
          selected_after c H e.who e.op (selection H t) h
          (ap is_accepted (sym legal.0) ∙ (and_parts (e.who == t) (is_accepted e.reply) holds).1)
          (ap (λ v. names (if v then selection_after e.op (selection H t) else selection H t) h) (sym holds) ∙ is)
    ]

pub held_since : (c : Setting) (e : Entry) (H : History) (t : ℕ) (h : Handle) → IsLegal c (e ∷ H) → holding (e ∷ H) t h ≡ true
    → (holding H t h ≡ true) ⊎ ((made H h ≡ true) × (live H h ≡ true))
held_since c e H t h legal is =
    let b : Bool = e.who == t && is_accepted e.reply in
    elim (cases_Bool b) [
      | inr fails ↦ inl (ap (λ v. if v then holding_after e.op h (holding H t h) else holding H t h) (sym fails) ∙ is)
      | inl holds ↦
          holding_since c H e.who e.op (holding H t h) h
          (ap is_accepted (sym legal.0) ∙ (and_parts (e.who == t) (is_accepted e.reply) holds).1)
          (ap (λ v. if v then holding_after e.op h (holding H t h) else holding H t h) (sym holds) ∙ is)
    ]

-- a freed handle is never live again
pub freed_stays : (c : Setting) (e : Entry) (H : History) (h : Handle) → IsLegal c (e ∷ H) → made H h ≡ true → live H h ≡ false → live (e ∷ H) h ≡ false
freed_stays c e H h legal before freed =
    and_right (not (frees_handle e h)) (makes_handle e h || live H h)
    (or_from (makes_handle e h) (live H h) (made_once c e H h legal before) freed)

-- a handle that is gone stays so
pub gone_stays : (c : Setting) (e : Entry) (H : History) (h : Handle) → IsLegal c (e ∷ H) → made H h ≡ true → IsGone c H h → IsGone c (e ∷ H) h
gone_stays c e H h legal before gone = (
  freed_stays c e H h legal before gone.0,
  λ t below. (
    false_from_ne_true (names (selection (e ∷ H) t) h) (λ is.
        elim (selected_since c e H t h legal is) [
          | inl earlier ↦ false≢true (sym (gone.1 t below).0 ∙ earlier)
          | inr now ↦ false≢true (sym gone.0 ∙ now.1)
        ]),
    false_from_ne_true (holding (e ∷ H) t h) (λ is.
        elim (held_since c e H t h legal is) [
          | inl earlier ↦ false≢true (sym (gone.1 t below).1 ∙ earlier)
          | inr now ↦ false≢true (sym gone.0 ∙ now.1)
        ]),
  ),
)

-- a live handle was made
pub live_made : (H : History) (h : Handle) → live H h ≡ true → made H h ≡ true
live_made [] h p = absurd (cc p)
live_made (e ∷ H) h p =
    elim (or_cases (makes_handle e h) (live H h) (and_parts (not (frees_handle e h)) (makes_handle e h || live H h) p).1) [
      | inl here ↦ or_left (makes_handle e h) (made H h) here
      | inr before ↦ or_right (makes_handle e h) (made H h) (live_made H h before)
    ]

-- a handle that a thread selects was made
pub selected_made : (c : Setting) (H : History) (t : ℕ) (h : Handle) → IsLegal c H → names (selection H t) h ≡ true → made H h ≡ true
selected_made c [] t h legal p = absurd (cc p)
selected_made c (e ∷ H) t h legal p =
    or_right (makes_handle e h) (made H h) (elim (selected_since c e H t h legal p) [
      | inl before ↦ selected_made c H t h legal.1 before
      | inr now ↦ now.0
    ])

-- a handle that a thread holds was made
pub held_made : (c : Setting) (H : History) (t : ℕ) (h : Handle) → IsLegal c H → holding H t h ≡ true → made H h ≡ true
held_made c [] t h legal p = absurd (cc p)
held_made c (e ∷ H) t h legal p =
    or_right (makes_handle e h) (made H h) (elim (held_since c e H t h legal p) [
      | inl before ↦ held_made c H t h legal.1 before
      | inr now ↦ now.0
    ])

-- a handle that was never made is neither live nor held on to
pub unmade_gone : (c : Setting) (H : History) (h : Handle) → IsLegal c H → made H h ≡ false → IsGone c H h
unmade_gone c H h legal un = (
  false_from_ne_true (live H h) (λ is. false≢true (sym un ∙ live_made H h is)),
  λ t below. (
    false_from_ne_true (names (selection H t) h) (λ is. false≢true (sym un ∙ selected_made c H t h legal is)),
    false_from_ne_true (holding H t h) (λ is. false≢true (sym un ∙ held_made c H t h legal is)),
  ),
)
