-- What one more entry changes of what a history says.
use Rattle.std.proofs.Common.{◌≡◌, ℕ, ◌+◌, ◌<◌, Bool, true, false, ◌==◌, ◌&&◌, ◌||◌, not, List, [], ◌∷◌, ◌++◌, Option, None, Some, refl, ap, sym, ◌∙◌, arith}
use Rattle.std.proofs.lemmas.Bool.{eq-eqb, ne_eqb, and_from, and_left, or_right, false≢true}
use Rattle.std.specs.Prelude.{if◌then◌else◌}
use Rattle.mask_compose.specs.Parts.{Parts, composed}
use Rattle.generations.specs.Making.{is_handle, with_handle}
use Rattle.lc_base.specs.declared.handle.Handle.{Handle}
use Rattle.lc_base.specs.declared.handle.Named.{Named}
use Rattle.lc_base.specs.declared.handle.Named.TheVariants.{Global, Of}
use Rattle.handle_table.specs.declared.op.Refusal.{Refusal}
use Rattle.handle_table.specs.Numbers.{object_handles}
use Rattle.handle_table.specs.Entry.{Op, New, Dup, Free, Use, Hold, Release, SetGlobal, Install, Post, Fetch, Pins, End, Reply, Made, Freed, Was, Held, Released, Set, Installed, Posted, Got, Pinned, Ended, Refused, Entry, History, Setting, names, is_accepted}
use Rattle.handle_table.specs.Shelf.{offer_after, shelf, installs_after, installs, from_shelf}
use Rattle.handle_table.specs.History.{handle_in, handle_made, makes_handle, made, frees_handle, live, handles, sets_after, sets, global_after, global, object_after, replies_with, object, selection_after, selection, holding_after, holding, pins, free_row, posted_after, posted}
use Rattle.handle_table.specs.Answer.{first_reason, reasons, of_handle, made_in, got, reply_to, unless, answer, IsLegal, own_after, own}
use Rattle.handle_table.specs.Table.{has_base}
use Rattle.handle_table.proofs.Numbering.{made_once, same_handles, same_itself}
use Rattle.handle_table.proofs.Gone.{freed_stays, unrefused}
use Rattle.handle_table.proofs.Pinned.{bit, ways, sum_but_one, pins_counted}

-- ---- made and live

-- a handle that was made stays made
pub made_stays : (e : Entry) (H : History) (h : Handle) → made H h ≡ true → made (e ∷ H) h ≡ true
made_stays e H h before = or_right (makes_handle e h) (made H h) before

-- a freed handle is never live again
pub freed_for_good : (c : Setting) (G H : History) (h : Handle) → IsLegal c (G ++ H) → made H h ≡ true → live H h ≡ false
    → (made (G ++ H) h ≡ true) × (live (G ++ H) h ≡ false)
freed_for_good c [] H h legal before freed = (before, freed)
freed_for_good c (e ∷ G) H h legal before freed =
    let below = freed_for_good c G H h legal.1 before freed in
    (made_stays e (G ++ H) h below.0, freed_stays c e (G ++ H) h legal below.0 below.1)

-- ---- threads: what they select, hold and post

other_caller : (w t : ℕ) (b : Bool) → (w ≡ t → ⊥) → (w == t && b) ≡ false
other_caller w t b other = and_left (w == t) b (ne_eqb w t other)

same_caller : (w t : ℕ) (b : Bool) → w ≡ t → b ≡ true → (w == t && b) ≡ true
same_caller w t b same is = and_from (w == t) b (eq-eqb w t same) is

refused_call : (a b : Bool) → b ≡ false → (a && b) ≡ false
refused_call true b p = p
refused_call false b p = refl

-- a thread's selection is changed by its own entries alone
pub selection_of_other : (e : Entry) (H : History) (t : ℕ) → (e.who ≡ t → ⊥) → selection (e ∷ H) t ≡ selection H t
selection_of_other e H t other =
    ap (λ b. if b then selection_after e.op (selection H t) else selection H t) (other_caller e.who t (is_accepted e.reply) other)

-- an accepted Use of the thread selects its target, its End the global locale, and no other op changes its selection
pub selection_of_caller : (e : Entry) (H : History) (t : ℕ) → e.who ≡ t → is_accepted e.reply ≡ true
    → selection (e ∷ H) t ≡ selection_after e.op (selection H t)
selection_of_caller e H t same accepted =
    ap (λ b. if b then selection_after e.op (selection H t) else selection H t) (same_caller e.who t (is_accepted e.reply) same accepted)

-- what a thread holds is changed by its own entries alone
pub holding_of_other : (e : Entry) (H : History) (t : ℕ) (h : Handle) → (e.who ≡ t → ⊥) → holding (e ∷ H) t h ≡ holding H t h
holding_of_other e H t h other =
    ap (λ b. if b then holding_after e.op h (holding H t h) else holding H t h) (other_caller e.who t (is_accepted e.reply) other)

-- an accepted Hold of the thread opens one, its Release closes it, its End closes all, and no other op changes them
pub holding_of_caller : (e : Entry) (H : History) (t : ℕ) (h : Handle) → e.who ≡ t → is_accepted e.reply ≡ true
    → holding (e ∷ H) t h ≡ holding_after e.op h (holding H t h)
holding_of_caller e H t h same accepted =
    ap (λ b. if b then holding_after e.op h (holding H t h) else holding H t h) (same_caller e.who t (is_accepted e.reply) same accepted)

-- what stands in a thread's cell is changed by its own entries alone
pub posted_of_other : (e : Entry) (H : History) (t k : ℕ) → (e.who ≡ t → ⊥) → posted (e ∷ H) t k ≡ posted H t k
posted_of_other e H t k other =
    ap (λ b. if b then posted_after e.op k (posted H t k) else posted H t k) (other_caller e.who t (is_accepted e.reply) other)

-- a refused entry changes no selection
pub selection_refused : (e : Entry) (H : History) (t : ℕ) → is_accepted e.reply ≡ false → selection (e ∷ H) t ≡ selection H t
selection_refused e H t refused =
    ap (λ b. if b then selection_after e.op (selection H t) else selection H t) (refused_call (e.who == t) (is_accepted e.reply) refused)

-- a refused entry opens and closes no Hold
pub holding_refused : (e : Entry) (H : History) (t : ℕ) (h : Handle) → is_accepted e.reply ≡ false → holding (e ∷ H) t h ≡ holding H t h
holding_refused e H t h refused =
    ap (λ b. if b then holding_after e.op h (holding H t h) else holding H t h) (refused_call (e.who == t) (is_accepted e.reply) refused)

-- a refused entry changes no cell
pub posted_refused : (e : Entry) (H : History) (t k : ℕ) → is_accepted e.reply ≡ false → posted (e ∷ H) t k ≡ posted H t k
posted_refused e H t k refused =
    ap (λ b. if b then posted_after e.op k (posted H t k) else posted H t k) (refused_call (e.who == t) (is_accepted e.reply) refused)

-- ---- pins

-- an entry changes the pins of a handle by what it changes of the ways in which its own thread holds on to the handle
pub pins_after : (c : Setting) (e : Entry) (H : History) (h : Handle) → e.who < c.threads
    → pins c (e ∷ H) h + ways H h e.who ≡ pins c H h + ways (e ∷ H) h e.who
pins_after c e H h caller =
    let before = pins_counted c H h in
    let after = pins_counted c (e ∷ H) h in
    let moved = sum_but_one (ways (e ∷ H) h) (ways H h) e.who c.threads caller (λ t lt other.
    let not_caller = λ (is : e.who ≡ t). other (sym is) in
    ap (λ n. bit (names n h) + bit (holding (e ∷ H) t h)) (selection_of_other e H t not_caller)
    ∙ ap (λ b. bit (names (selection H t) h) + bit b) (holding_of_other e H t h not_caller)) in
    omega arith

-- ---- objects

-- a reply that is a handle, in words of what it makes
with_base : (c : Setting) (H : History) (t mask : ℕ) (numbers : List ℕ) (n : Named) (h : Handle) (r : Option Refusal)
    → is_handle object_handles (handle_in (unless r (of_handle n (λ g. Made g)))) h ≡ true → (r ≡ None) × (n ≡ Of h)
with_base c H t mask numbers n h (Some refusal) p = absurd (cc p)
with_base c H t mask numbers Global h None p = absurd (cc p)
with_base c H t mask numbers (Of g) h None p = (refl, ap (λ x. Of x) (same_handles g h p))

object_if : (b : Bool) (x y : Parts) → (b ≡ true → x ≡ y) → (if b then x else y) ≡ y
object_if true x y same = same refl
object_if false x y same = refl

pub same_either : {A : Type 0} (b : Bool) (x : A) → (if b then x else x) ≡ x
same_either true x = refl
same_either false x = refl

named_base : (n : Named) (h : Handle) → n ≡ Of h → names n h ≡ true
named_base n h is = ap (λ x. names x h) is ∙ same_itself h

object_kept : (c : Setting) (e : Entry) (H : History) (h : Handle) (op : Op) → e.op ≡ op → IsLegal c (e ∷ H) → makes_handle e h ≡ false → has_base op h ≡ false
    → (if replies_with e.reply h then object_after c H (object c H) op h else object c H h) ≡ object c H h
object_kept c e H h (New mask numbers None) is legal un other =
    object_if (replies_with e.reply h) _ _ (λ answers.
    absurd (false≢true (sym un ∙ ap (λ o. is_handle object_handles (handle_made o e.reply) h) is ∙ answers)))
object_kept c e H h (New mask numbers (Some n)) is legal un other =
    object_if (replies_with e.reply h) _ _ (λ answers.
    let reply : e.reply ≡ answer c H e.who (New mask numbers (Some n)) = legal.0 ∙ ap (answer c H e.who) is in
    let base = with_base c H e.who mask numbers n h (first_reason (reasons c H e.who (New mask numbers (Some n)))) (sym (ap (λ r. replies_with r h) reply) ∙ answers) in
    absurd (false≢true (sym other ∙ named_base n h base.1)))
object_kept c e H h (Dup n) is legal un other =
    object_if (replies_with e.reply h) _ _ (λ answers.
    absurd (false≢true (sym un ∙ ap (λ o. is_handle object_handles (handle_made o e.reply) h) is ∙ answers)))
object_kept c e H h (Free n) is legal un other = same_either (replies_with e.reply h) (object c H h)
object_kept c e H h (Use n) is legal un other = same_either (replies_with e.reply h) (object c H h)
object_kept c e H h (Hold n) is legal un other = same_either (replies_with e.reply h) (object c H h)
object_kept c e H h (Release n) is legal un other = same_either (replies_with e.reply h) (object c H h)
object_kept c e H h (SetGlobal mask numbers) is legal un other = same_either (replies_with e.reply h) (object c H h)
object_kept c e H h (Install m offer) is legal un other = same_either (replies_with e.reply h) (object c H h)
object_kept c e H h (Post k n) is legal un other = same_either (replies_with e.reply h) (object c H h)
object_kept c e H h (Fetch owner k) is legal un other = same_either (replies_with e.reply h) (object c H h)
object_kept c e H h (Pins n) is legal un other = same_either (replies_with e.reply h) (object c H h)
object_kept c e H h End is legal un other = same_either (replies_with e.reply h) (object c H h)

-- an entry that makes no such handle, and does not have it as base, leaves its object
pub object_unmade : (c : Setting) (e : Entry) (H : History) (h : Handle) → IsLegal c (e ∷ H) → makes_handle e h ≡ false → has_base e.op h ≡ false
    → object c (e ∷ H) h ≡ object c H h
object_unmade c e H h legal un other = object_kept c e H h e.op refl legal un other

-- an object is changed by a New with its handle as base alone
pub object_stays : (c : Setting) (e : Entry) (H : History) (h : Handle) → IsLegal c (e ∷ H) → made H h ≡ true → has_base e.op h ≡ false
    → object c (e ∷ H) h ≡ object c H h
object_stays c e H h legal before other = object_unmade c e H h legal (made_once c e H h legal before) other

-- an accepted New with the handle as base gives it what the mask and the numbers take from the shelf, over what it had
pub object_rebuilt : (c : Setting) (e : Entry) (H : History) (h : Handle) (mask : ℕ) (numbers : List ℕ) → IsLegal c (e ∷ H)
    → e.op ≡ New mask numbers (Some (Of h)) → is_accepted e.reply ≡ true
    → object c (e ∷ H) h ≡ composed mask (from_shelf c H mask numbers) (object c H h)
object_rebuilt c e H h mask numbers legal is accepted =
    let reply : e.reply ≡ answer c H e.who (New mask numbers (Some (Of h))) = legal.0 ∙ ap (answer c H e.who) is in
    let none = unrefused (first_reason (reasons c H e.who (New mask numbers (Some (Of h))))) (Made h) (sym (ap is_accepted reply) ∙ accepted) in
    let answers : replies_with e.reply h ≡ true =
    ap (λ r. replies_with r h) reply ∙ ap (λ r. replies_with (unless r (Made h)) h) none ∙ same_itself h
    in
    ap (λ b. if b then object_after c H (object c H) e.op h else object c H h) answers
    ∙ ap (λ o. object_after c H (object c H) o h) is

refused_answers : (reply : Reply) (h : Handle) → is_accepted reply ≡ false → replies_with reply h ≡ false
refused_answers (Refused refusal) h p = refl
refused_answers (Made g) h p = absurd (cc p)
refused_answers Freed h p = refl
refused_answers (Was former now) h p = refl
refused_answers (Held object) h p = refl
refused_answers Released h p = refl
refused_answers (Set k object) h p = refl
refused_answers (Installed k) h p = refl
refused_answers Posted h p = refl
refused_answers (Got g) h p = refl
refused_answers (Pinned k) h p = refl
refused_answers Ended h p = refl

-- a refused entry changes no object
pub object_refused : (c : Setting) (e : Entry) (H : History) (h : Handle) → is_accepted e.reply ≡ false → object c (e ∷ H) h ≡ object c H h
object_refused c e H h refused =
    ap (λ b. if b then object_after c H (object c H) e.op h else object c H h) (refused_answers e.reply h refused)

-- ---- what a thread took up

-- the ops that take an object up, or let it go
abbrev pub takes_up : Op → Bool
takes_up (Use n) = true
takes_up End = true
takes_up _ = false

own_unless : (refusal : Option Refusal) (reply : Reply) (before : Option Parts) → own_after reply before ≡ before
    → own_after (unless refusal reply) before ≡ before
own_unless (Some refusal) reply before is = refl
own_unless None reply before is = is

own_made_in : (H : History) (t : ℕ) (row : Option ℕ) (before : Option Parts) → own_after (made_in H t row) before ≡ before
own_made_in H t None before = refl
own_made_in H t (Some r) before = refl

own_of_handle : (n : Named) (reply : Handle → Reply) (before : Option Parts) → ((h : Handle) → own_after (reply h) before ≡ before)
    → own_after (of_handle n reply) before ≡ before
own_of_handle Global reply before each = refl
own_of_handle (Of h) reply before each = each h

own_got : (cell : Option Handle) (before : Option Parts) → own_after (got cell) before ≡ before
own_got None before = refl
own_got (Some h) before = refl

own_to : (c : Setting) (H : History) (t : ℕ) (op : Op) (before : Option Parts) → takes_up op ≡ false
    → own_after (reply_to c H t op) before ≡ before
own_to c H t (New mask numbers None) before other = own_made_in H t (free_row c H t) before
own_to c H t (New mask numbers (Some n)) before other = own_of_handle n (λ h. Made h) before (λ h. refl)
own_to c H t (Dup n) before other = own_made_in H t (free_row c H t) before
own_to c H t (Free n) before other = refl
own_to c H t (Use n) before other = absurd (cc other)
own_to c H t (Hold n) before other = own_of_handle n (λ h. Held (object c H h)) before (λ h. refl)
own_to c H t (Release n) before other = refl
own_to c H t (SetGlobal mask numbers) before other = refl
own_to c H t (Install m offer) before other = refl
own_to c H t (Post k n) before other = refl
own_to c H t (Fetch owner k) before other = own_got (posted H owner k) before
own_to c H t (Pins n) before other = own_of_handle n (λ h. Pinned (pins c H h)) before (λ h. refl)
own_to c H t End before other = absurd (cc other)

-- what a thread took up is changed by its own entries alone
pub own_of_other : (e : Entry) (H : History) (t : ℕ) → (e.who ≡ t → ⊥) → own (e ∷ H) t ≡ own H t
own_of_other e H t other = ap (λ b. if b then own_after e.reply (own H t) else own H t) (ne_eqb e.who t other)

-- what a thread took up after its own entry is by the reply: a Use takes up its object, an End lets go, and any other reply leaves it
pub own_of_caller : (e : Entry) (H : History) (t : ℕ) → e.who ≡ t → own (e ∷ H) t ≡ own_after e.reply (own H t)
own_of_caller e H t same = ap (λ b. if b then own_after e.reply (own H t) else own H t) (eq-eqb e.who t same)

-- what a thread took up stays as it was, whatever is called, until its own next Use or End
pub own_stays : (c : Setting) (e : Entry) (H : History) (t : ℕ) → IsLegal c (e ∷ H) → takes_up e.op ≡ false → own (e ∷ H) t ≡ own H t
own_stays c e H t legal other =
    ap (λ r. if e.who == t then own_after r (own H t) else own H t) legal.0
    ∙ ap (λ o. if e.who == t then o else own H t)
    (own_unless (first_reason (reasons c H e.who e.op)) (reply_to c H e.who e.op) (own H t) (own_to c H e.who e.op (own H t) other))
    ∙ same_either (e.who == t) (own H t)

refused_own : (reply : Reply) (before : Option Parts) → is_accepted reply ≡ false → own_after reply before ≡ before
refused_own (Refused refusal) before p = refl
refused_own (Made g) before p = refl
refused_own Freed before p = refl
refused_own (Was former now) before p = absurd (cc p)
refused_own (Held object) before p = refl
refused_own Released before p = refl
refused_own (Set k object) before p = refl
refused_own (Installed k) before p = refl
refused_own Posted before p = refl
refused_own (Got g) before p = refl
refused_own (Pinned k) before p = refl
refused_own Ended before p = absurd (cc p)

-- a refused entry leaves what a thread took up
pub own_refused : (e : Entry) (H : History) (t : ℕ) → is_accepted e.reply ≡ false → own (e ∷ H) t ≡ own H t
own_refused e H t refused =
    ap (λ o. if e.who == t then o else own H t) (refused_own e.reply (own H t) refused) ∙ same_either (e.who == t) (own H t)

-- ---- the shelf and the global locale

-- a refused entry leaves the shelf
pub shelf_refused : (c : Setting) (e : Entry) (H : History) (n : ℕ) → is_accepted e.reply ≡ false → shelf c (e ∷ H) n ≡ shelf c H n
shelf_refused c e H n refused = ap (λ b. if b then offer_after e.op n (shelf c H n) else shelf c H n) refused

pub installs_refused : (e : Entry) (H : History) → is_accepted e.reply ≡ false → installs (e ∷ H) ≡ installs H
installs_refused e H refused = ap (λ b. if b then installs_after e.op (installs H) else installs H) refused

-- each accepted SetGlobal makes a version, and nothing else does
pub sets_accepted : (e : Entry) (H : History) → is_accepted e.reply ≡ true → sets (e ∷ H) ≡ sets_after e.op (sets H)
sets_accepted e H accepted = ap (λ b. if b then sets_after e.op (sets H) else sets H) accepted

pub sets_refused : (e : Entry) (H : History) → is_accepted e.reply ≡ false → sets (e ∷ H) ≡ sets H
sets_refused e H refused = ap (λ b. if b then sets_after e.op (sets H) else sets H) refused

-- an accepted SetGlobal composes what it takes from the shelf with the global object, and nothing else changes that
pub global_accepted : (c : Setting) (e : Entry) (H : History) → is_accepted e.reply ≡ true → global c (e ∷ H) ≡ global_after c H e.op (global c H)
global_accepted c e H accepted = ap (λ b. if b then global_after c H e.op (global c H) else global c H) accepted

pub global_refused : (c : Setting) (e : Entry) (H : History) → is_accepted e.reply ≡ false → global c (e ∷ H) ≡ global c H
global_refused c e H refused = ap (λ b. if b then global_after c H e.op (global c H) else global c H) refused

-- ---- refused entries

refused_in : (reply : Reply) → is_accepted reply ≡ false → handle_in reply ≡ None
refused_in (Refused refusal) p = refl
refused_in (Made g) p = absurd (cc p)
refused_in Freed p = refl
refused_in (Was former now) p = refl
refused_in (Held object) p = refl
refused_in Released p = refl
refused_in (Set k object) p = refl
refused_in (Installed k) p = refl
refused_in Posted p = refl
refused_in (Got g) p = refl
refused_in (Pinned k) p = refl
refused_in Ended p = refl

-- a refused op makes no handle
pub refused_makes : (op : Op) (reply : Reply) → is_accepted reply ≡ false → handle_made op reply ≡ None
refused_makes (New mask numbers None) reply refused = refused_in reply refused
refused_makes (New mask numbers (Some n)) reply refused = refl
refused_makes (Dup n) reply refused = refused_in reply refused
refused_makes (Free n) reply refused = refl
refused_makes (Use n) reply refused = refl
refused_makes (Hold n) reply refused = refl
refused_makes (Release n) reply refused = refl
refused_makes (SetGlobal mask numbers) reply refused = refl
refused_makes (Install m offer) reply refused = refl
refused_makes (Post k n) reply refused = refl
refused_makes (Fetch owner k) reply refused = refl
refused_makes (Pins n) reply refused = refl
refused_makes End reply refused = refl

-- an entry that makes no handle makes none of a row
pub handles_kept : (e : Entry) (H : History) (t r : ℕ) → handle_made e.op e.reply ≡ None → handles (e ∷ H) t r ≡ handles H t r
handles_kept e H t r none = ap (λ o. with_handle object_handles t r o (handles H t r)) none

-- an entry that makes no handle leaves what was made
pub made_kept : (e : Entry) (H : History) (h : Handle) → handle_made e.op e.reply ≡ None → made (e ∷ H) h ≡ made H h
made_kept e H h none = ap (λ o. is_handle object_handles o h || made H h) none

-- an entry that makes no handle leaves a handle live unless it frees it
pub live_kept : (e : Entry) (H : History) (h : Handle) → handle_made e.op e.reply ≡ None → frees_handle e h ≡ false → live (e ∷ H) h ≡ live H h
live_kept e H h none un =
    ap (λ b. not b && (makes_handle e h || live H h)) un ∙ ap (λ o. is_handle object_handles o h || live H h) none
