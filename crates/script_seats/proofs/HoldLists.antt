-- The list of a thread's open Holds: no two are of one handle, and the one that is named is taken out of it.
use Rattle.std.proofs.Common.{◌≡◌, ◌⊎◌, inl, inr, ℕ, zero, suc, ◌+◌, ◌<◌, Bool, true, false, cond, not, List, [], ◌∷◌, ◌++◌, length, get_or, Option, Some, None, refl, sym, ap, ◌∙◌, subst, arith}
use Rattle.std.specs.Prelude.{◌==◌, ◌||◌, filter, position, nat_lt, find, option_map, if◌then◌else◌}
use Rattle.std.specs.List.{list_any, remove, position_or_len}
use Rattle.std.specs.Option.{is_some}
use Rattle.std.proofs.lemmas.Bool.{false≢true, cases_Bool, false_from_ne_true, ltb-true, lt-ltb, eqb-true}
use Rattle.std.proofs.lemmas.List.Folds.{list_any-append}
use Rattle.std.proofs.lemmas.List.Sums.{passes_at_first}
use Rattle.lc_base.specs.declared.handle.Handle.{Handle}
use Rattle.lc_base.specs.declared.handle.Named.{Named}
use Rattle.lc_base.specs.declared.handle.Named.TheVariants.{Global, Of}
use Rattle.handle_table.specs.declared.op.Refusal.{Refusal}
use Rattle.handle_table.specs.declared.op.Refusal.TheVariants.{AlreadyHeld}
use Rattle.handle_table.specs.Entry.{Op, New, Dup, Free, Use, Hold, Release, SetGlobal, Install, Post, Fetch, Pins, End, Reply, Held, History, Setting, names, same_handle, is_accepted}
use Rattle.handle_table.specs.History.{holding, object}
use Rattle.handle_table.specs.Answer.{answer, IsLegal, unless, first_reason, never_made, stale}
use Rattle.handle_table.proofs.Numbering.{same_handles, same_itself}
use Rattle.thread_current.specs.Mine.{HeldData}
use Rattle.mask_compose.specs.Parts.{Parts}
use Rattle.script_wishes.specs.declared.holds.OpenHold.{OpenHold}
use Rattle.script_wishes.specs.Holds.{object_held, with_hold, without, hold_change, changed, open_holds, is_of, held_as}
use Rattle.script_wishes.proofs.HoldLaws.{held_where_holding}
use Rattle.script_seats.specs.Seated.{held_data, handed_out, AreApart, is_held, IsTaken, IsUnheld}

-- ---- handles

-- one handle is the other where the other is the one
pub same_swapped : (g h : Handle) → same_handle g h ≡ same_handle h g
same_swapped g h =
    elim (cases_Bool (same_handle g h)) [
      | inl is ↦ is ∙ sym (ap (λ (x : Handle). same_handle h x) (same_handles g h is) ∙ same_itself h)
      | inr other ↦ other ∙ sym (false_from_ne_true (same_handle h g) (λ is. false≢true (sym other ∙ ap (λ (x : Handle). same_handle g x) (same_handles h g is) ∙ same_itself g)))
    ]

-- what is named is a handle where a Hold is of it
pub named_is : (n : Named) (h : Handle) → names n h ≡ true → n ≡ Of h
named_is Global h is = absurd (false≢true is)
named_is (Of g) h is = ap (λ (x : Handle). Of x) (same_handles g h is)

-- ---- what a thread holds

is_found : (b : Bool) (o : OpenHold) (rest : Option OpenHold) (r : Bool) → is_some (option_map (λ (x : OpenHold). x.object) rest) ≡ r
    → is_some (option_map (λ (x : OpenHold). x.object) (cond b (Some o) rest)) ≡ (b || r)
is_found true o rest r is = refl
is_found false o rest r is = is

found : (h : Handle) (holds : List OpenHold) → is_some (held_as holds (Of h)) ≡ list_any (is_of h) holds
found h [] = refl
found h (o ∷ holds) = is_found (is_of h o) o (find (is_of h) holds) (list_any (is_of h) holds) (found h holds)

-- a thread has an open Hold of a handle exactly where a legal history says that it holds it
pub holds_of : (c : Setting) (H : History) → IsLegal c H → (t : ℕ) (h : Handle) → list_any (is_of h) (open_holds H t) ≡ holding H t h
holds_of c H legal t h = sym (found h (open_holds H t)) ∙ held_where_holding c H legal t h

-- ---- no two Holds are of one handle

neither : (a b : Bool) → (a || b) ≡ false → (a ≡ false) × (b ≡ false)
neither true b none = absurd (false≢true (sym none))
neither false b none = (refl, none)

or_first : (a b : Bool) → a ≡ true → (a || b) ≡ true
or_first a b is = ap (λ (x : Bool). x || b) is

pub or_second : (a b : Bool) → b ≡ true → (a || b) ≡ true
or_second true b is = refl
or_second false b is = is

both_false : (a b : Bool) → a ≡ false → b ≡ false → (a || b) ≡ false
both_false a b p q = rw (p, q) refl

-- one more, of a handle that none is of
apart_more : (o : OpenHold) (os : List OpenHold) → AreApart os → list_any (is_of o.handle) os ≡ false → AreApart (os ++ o ∷ [])
apart_more o [] apart none = (refl, tt)
apart_more o (x ∷ os) apart none =
    let parts = neither (is_of o.handle x) (list_any (is_of o.handle) os) none in (
      list_any-append (is_of x.handle) os (o ∷ []) ∙ both_false (list_any (is_of x.handle) os) (is_of x.handle o || false) apart.0 (both_false (is_of x.handle o) false (same_swapped o.handle x.handle ∙ parts.0) refl),
      apart_more o os apart.1 parts.1,
    )

fewer_any : (q p : OpenHold → Bool) (os : List OpenHold) → list_any q os ≡ false → list_any q (filter p os) ≡ false
fewer_any q p [] none = refl
fewer_any q p (o ∷ os) none =
    let parts = neither (q o) (list_any q os) none in
    let rest = fewer_any q p os parts.1 in
    elim (p o) as (λ (b : Bool). list_any q (cond b (o ∷ filter p os) (filter p os)) ≡ false) [
      | true ↦ both_false (q o) (list_any q (filter p os)) parts.0 rest
      | false ↦ rest
    ]

apart_fewer : (p : OpenHold → Bool) (os : List OpenHold) → AreApart os → AreApart (filter p os)
apart_fewer p [] apart = tt
apart_fewer p (o ∷ os) apart =
    let rest = apart_fewer p os apart.1 in
    elim (p o) as (λ (b : Bool). AreApart (cond b (o ∷ filter p os) (filter p os))) [
      | true ↦ (fewer_any (is_of o.handle) p os apart.0, rest)
      | false ↦ rest
    ]

-- a Hold of what the thread holds already is refused
refused_held : (a b : Option Refusal) (r : Reply) → object_held (unless (first_reason (a ∷ b ∷ Some AlreadyHeld ∷ [])) r) ≡ None
refused_held (Some x) b r = refl
refused_held None (Some x) r = refl
refused_held None None r = refl

held_already : (c : Setting) (H : History) (t : ℕ) (g : Handle) → holding H t g ≡ true → object_held (answer c H t (Hold (Of g))) ≡ None
held_already c H t g held =
    ap (λ (b : Bool). object_held (unless (first_reason (None ∷ never_made H (Of g) ∷ stale H (Of g) ∷ (if b then Some AlreadyHeld else None) ∷ [])) (Held (object c H g)))) held
    ∙ refused_held (never_made H (Of g)) (stale H (Of g)) (Held (object c H g))

apart_hold : (g : Handle) (os : List OpenHold) (o : Option Parts) → AreApart os → ((list_any (is_of g) os ≡ false) ⊎ (o ≡ None)) → AreApart (with_hold os (Of g) o)
apart_hold g os None apart either = apart
apart_hold g os (Some x) apart (inl none) = apart_more (record { handle = g; object = x }) os apart none
apart_hold g os (Some x) apart (inr none) = absurd (cc none)

apart_held : (c : Setting) (H : History) (t : ℕ) (n : Named) → IsLegal c H → AreApart (open_holds H t) → AreApart (with_hold (open_holds H t) n (object_held (answer c H t (Hold n))))
apart_held c H t Global legal apart = apart
apart_held c H t (Of g) legal apart =
    apart_hold g (open_holds H t) (object_held (answer c H t (Hold (Of g)))) apart
    (elim (cases_Bool (holding H t g)) [
      | inl held ↦ inr (held_already c H t g held)
      | inr free ↦ inl (holds_of c H legal t g ∙ free)
    ])

apart_changed : (c : Setting) (H : History) (t : ℕ) (op : Op) → IsLegal c H → AreApart (open_holds H t) → AreApart (changed (open_holds H t) (object_held (answer c H t op)) (hold_change op))
apart_changed c H t (New mask numbers base) legal apart = apart
apart_changed c H t (Dup n) legal apart = apart
apart_changed c H t (Free n) legal apart = apart
apart_changed c H t (Use n) legal apart = apart
apart_changed c H t (Hold n) legal apart = apart_held c H t n legal apart
apart_changed c H t (Release n) legal apart = apart_fewer (λ (o : OpenHold). not (names n o.handle)) (open_holds H t) apart
apart_changed c H t (SetGlobal mask numbers) legal apart = apart
apart_changed c H t (Install m offer) legal apart = apart
apart_changed c H t (Post k n) legal apart = apart
apart_changed c H t (Fetch owner k) legal apart = apart
apart_changed c H t (Pins n) legal apart = apart
apart_changed c H t End legal apart = tt

either_apart : (own accepted : Bool) (before after : List OpenHold) → AreApart before → (own ≡ true → AreApart after) → AreApart (cond own (cond accepted after before) before)
either_apart true true before after p q = q refl
either_apart true false before after p q = p
either_apart false accepted before after p q = p

-- the open Holds of a thread after a legal history are of different handles
pub apart_holds : (c : Setting) (H : History) → IsLegal c H → (t : ℕ) → AreApart (open_holds H t)
apart_holds c [] legal t = tt
apart_holds c (e ∷ H) legal t =
    let before = apart_holds c H legal.1 t in
    either_apart (e.who == t) (is_accepted e.reply) (open_holds H t) (changed (open_holds H t) (object_held e.reply) (hold_change e.op)) before
    (λ own.
    subst (λ (r : Reply). AreApart (changed (open_holds H t) (object_held r) (hold_change e.op))) (sym legal.0)
    (subst (λ (k : ℕ). AreApart (changed (open_holds H t) (object_held (answer c H k e.op)) (hold_change e.op))) (sym (eqb-true e.who t own))
    (apart_changed c H t e.op legal.1 before)))

-- ---- what is named is taken out

-- none of these is of what is named
pub kept_all : (g : Handle) (os : List OpenHold) → list_any (is_of g) os ≡ false → without os (Of g) ≡ os
kept_all g [] none = refl
kept_all g (o ∷ os) none =
    let parts = neither (is_of g o) (list_any (is_of g) os) none in
    let apart : same_handle g o.handle ≡ false = same_swapped g o.handle ∙ parts.0 in
    ap (λ (b : Bool). cond (not b) (o ∷ without os (Of g)) (without os (Of g))) apart ∙ ap (λ (xs : List OpenHold). o ∷ xs) (kept_all g os parts.1)

abbrev Rest : Named → List OpenHold → ℕ → List OpenHold → Type 0
Rest n os at rest = at < length (handed_out os) → remove (handed_out os) at ≡ handed_out rest

abbrev at_first : Named → List OpenHold → ℕ
at_first n os = position_or_len (is_held n) (handed_out os)

rest_by : (b : Bool) (n : Named) (o : OpenHold) (os : List OpenHold) → AreApart (o ∷ os) → names n o.handle ≡ b → Rest n os (at_first n os) (without os n)
    → Rest n (o ∷ os) (cond (not b) (1 + at_first n os) 0) (cond (not b) (o ∷ without os n) (without os n))
rest_by true n o os apart is rest within =
    sym (ap (λ (m : Named). handed_out (without os m)) (named_is n o.handle is) ∙ ap handed_out (kept_all o.handle os apart.0))
rest_by false n o os apart is rest within =
    let more : 1 + at_first n os ≡ suc (at_first n os) = omega arith in
    let below : at_first n os < length (handed_out os) = omega arith in
    ap (λ (i : ℕ). remove (handed_out (o ∷ os)) i) more ∙ ap (λ (xs : List HeldData). held_data o ∷ xs) (rest below)

-- the others stay
pub taken_rest : (n : Named) (os : List OpenHold) → AreApart os → Rest n os (at_first n os) (without os n)
taken_rest n [] apart within = absurd (omega arith)
taken_rest n (o ∷ os) apart within = rest_by (names n o.handle) n o os apart refl (taken_rest n os apart.1) within

-- it was there
pub taken_there : (os : List OpenHold) (i : ℕ) (x : HeldData) → i < length (handed_out os) → x ≡ get_or (handed_out os) i x → list_any (is_of x.handle) os ≡ true
taken_there [] i x within is = absurd (omega arith)
taken_there (o ∷ os) zero x within is = or_first (is_of x.handle o) (list_any (is_of x.handle) os) (ap (λ (h : HeldData). same_handle o.handle h.handle) is ∙ same_itself o.handle)
taken_there (o ∷ os) (suc i) x within is =
    let below : i < length (handed_out os) = omega arith in
    or_second (is_of x.handle o) (list_any (is_of x.handle) os) (taken_there os i x below is)

-- where none is found, none is of what is named
any_found : (p : HeldData → Bool) (xs : List HeldData) → list_any p xs ≡ true → position_or_len p xs < length xs
any_found p [] any = absurd (false≢true any)
any_found p (x ∷ xs) any =
    let tail = any_found p xs in
    elim (p x) as (λ (b : Bool). (b || list_any p xs) ≡ true → cond (not b) (1 + position_or_len p xs) 0 < length (x ∷ xs)) [
      | true ↦ λ is. omega arith
      | false ↦ λ is. (let below = tail is in omega arith)
    ] any

named_as : (h : Handle) (os : List OpenHold) → list_any (is_held (Of h)) (handed_out os) ≡ list_any (is_of h) os
named_as h [] = refl
named_as h (o ∷ os) = ap (λ (b : Bool). b || list_any (is_held (Of h)) (handed_out os)) (same_swapped h o.handle) ∙ ap (λ (b : Bool). is_of h o || b) (named_as h os)

pub position_none : (n : Named) (xs : List HeldData) → position (is_held n) xs ≡ None → IsUnheld n xs
position_none n xs nowhere holds h old named =
    false_from_ne_true (list_any (is_of h) holds) (λ any.
    let there : list_any (is_held n) xs ≡ true = ap (λ (m : Named). list_any (is_held m) xs) named ∙ ap (list_any (is_held (Of h))) old ∙ named_as h holds ∙ any in
    let within = lt-ltb (position_or_len (is_held n) xs) (length xs) (any_found (is_held n) xs there) in
    let some : Some (position_or_len (is_held n) xs) ≡ None = sym (ap (λ (b : Bool). cond b (Some (position_or_len (is_held n) xs)) None) within) ∙ nowhere in
    cc)

-- where one is found, it is the first
pub position_some : (n : Named) (xs : List HeldData) (i : ℕ) → position (is_held n) xs ≡ Some i → (position_or_len (is_held n) xs ≡ i) × (i < length xs)
position_some n xs i is =
    elim (cases_Bool (nat_lt (position_or_len (is_held n) xs) (length xs))) [
      | inl within ↦
          let some : Some (position_or_len (is_held n) xs) ≡ Some i = sym (ap (λ (b : Bool). cond b (Some (position_or_len (is_held n) xs)) None) within) ∙ is in
          let same : position_or_len (is_held n) xs ≡ i = cc in
          let below = ltb-true (position_or_len (is_held n) xs) (length xs) within in
          (same, omega arith)
      | inr beyond ↦
          let none : None ≡ Some i = sym (ap (λ (b : Bool). cond b (Some (position_or_len (is_held n) xs)) None) beyond) ∙ is in
          absurd (cc none)
    ]

-- the Hold at the first place that passes is taken
pub is_taken : (n : Named) (xs ys : List HeldData) (i : ℕ) (x : HeldData) → position (is_held n) xs ≡ Some i → x ≡ get_or xs i x → ys ≡ remove xs i → IsTaken n xs ys x
is_taken n xs ys i x is here left =
    let at = position_some n xs i is in
    let first : position_or_len (is_held n) xs ≡ i = at.0 in
    let within : i < length xs = at.1 in
    let within_first : position_or_len (is_held n) xs < length xs = omega arith in
    record {
      handle = named_is n x.handle (ap (is_held n) (here ∙ ap (λ (k : ℕ). get_or xs k x) (sym first)) ∙ passes_at_first (is_held n) xs x within_first);
      there = λ holds old.
          taken_there holds i x (subst (λ (zs : List HeldData). i < length zs) old within) (here ∙ ap (λ (zs : List HeldData). get_or zs i x) old);
      rest = λ holds apart old.
          left ∙ ap (λ (k : ℕ). remove xs k) (sym first) ∙ ap (λ (zs : List HeldData). remove zs (position_or_len (is_held n) zs)) old
          ∙ taken_rest n holds apart (subst (λ (zs : List HeldData). position_or_len (is_held n) zs < length zs) old within_first);
    }

-- the object of what is named
abbrev object_of : Option HeldData → Option Parts
object_of found = option_map (λ (h : HeldData). h.object) found

none_global : (os : List OpenHold) → object_of (find (is_held Global) (handed_out os)) ≡ None
none_global [] = refl
none_global (o ∷ os) = none_global os

found_of : (h : Handle) (os : List OpenHold) → object_of (find (is_held (Of h)) (handed_out os)) ≡ option_map (λ (o : OpenHold). o.object) (find (is_of h) os)
found_of h [] = refl
found_of h (o ∷ os) =
    ap (λ (b : Bool). object_of (cond b (Some (held_data o)) (find (is_held (Of h)) (handed_out os)))) (same_swapped h o.handle)
    ∙ (elim (is_of h o) as (λ (b : Bool). object_of (cond b (Some (held_data o)) (find (is_held (Of h)) (handed_out os))) ≡ option_map (λ (x : OpenHold). x.object) (cond b (Some o) (find (is_of h) os))) [
      | true ↦ refl
      | false ↦ found_of h os
    ])

pub found_as : (n : Named) (os : List OpenHold) → object_of (find (is_held n) (handed_out os)) ≡ held_as os n
found_as Global os = none_global os
found_as (Of h) os = found_of h os
