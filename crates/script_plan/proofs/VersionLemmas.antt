-- The versions of the global locale along a history, and those that calls print.
use Rattle.std.proofs.Common.{◌≡◌, ℕ, zero, suc, ◌+◌, ◌≤◌, Bool, true, false, ◌||◌, List, [], ◌∷◌, ◌++◌, find, option_to_list, Option, Some, None, refl, sym, ap, subst, ◌∙◌, arith, inl, inr, le_refl}
use Rattle.std.specs.Prelude.{◌==◌, if◌then◌else◌, All}
use Rattle.std.proofs.lemmas.Bool.{cases_lt}
use Rattle.std.proofs.lemmas.List.Elements.{All-nil, All-cons}
use Rattle.mask_compose.specs.Parts.{Parts, composed}
use Rattle.lc_base.specs.declared.handle.Handle.{Handle}
use Rattle.lc_base.specs.declared.handle.Named.{Named}
use Rattle.lc_base.specs.declared.handle.Named.TheVariants.{Global, Of}
use Rattle.handle_table.specs.declared.op.Refusal.{Refusal}
use Rattle.handle_table.specs.declared.op.Refusal.TheVariants as refusals
use Rattle.handle_table.specs.Entry as table
use Rattle.handle_table.specs.Entry.{Entry, History, Setting, is_accepted}
use Rattle.handle_table.specs.History as histories
use Rattle.handle_table.specs.History.{sets, sets_after, global, global_at, holding, pins, free_row, posted}
use Rattle.handle_table.specs.Shelf.{from_shelf}
use Rattle.handle_table.specs.Answer.{answer, entry, reasons, first_reason, reply_to, unless, made_in, of_handle, got}
use Rattle.handle_table.proofs.Changes.{holding_of_caller}
use Rattle.handle_table.proofs.Unchanged.{version_stays, newest_version}
use Rattle.handle_table.proofs.Numbering.{same_itself}
use Rattle.script_wishes.specs.Holds.{object_held}
use Rattle.script_lines.specs.Lines.{version_made}
use Rattle.script_lines.specs.Outcome.{with_call}
use Rattle.script_plan.specs.Prints.{PlacedCall, with_placed, history_below}
use Rattle.script_plan.proofs.GoingOn.{GoesOnFrom}

-- ---- how many versions there are

set_up : (op : table.Op) (n : ℕ) → n ≤ sets_after op n
set_up (table.SetGlobal mask numbers) n = omega arith
set_up (table.New mask numbers base) n = le_refl n
set_up (table.Dup m) n = le_refl n
set_up (table.Free m) n = le_refl n
set_up (table.Use m) n = le_refl n
set_up (table.Hold m) n = le_refl n
set_up (table.Release m) n = le_refl n
set_up (table.Install m offer) n = le_refl n
set_up (table.Post k m) n = le_refl n
set_up (table.Fetch owner k) n = le_refl n
set_up (table.Pins m) n = le_refl n
set_up table.End n = le_refl n

set_if : (b : Bool) (op : table.Op) (n : ℕ) → n ≤ (if b then sets_after op n else n)
set_if true op n = set_up op n
set_if false op n = le_refl n

sets_up : (e : Entry) (H : History) → sets H ≤ sets (e ∷ H)
sets_up e H = set_if (is_accepted e.reply) e.op (sets H)

sets_more : (E H : History) → sets H ≤ sets (E ++ H)
sets_more [] H = le_refl (sets H)
sets_more (e ∷ E) H = let before = sets_more E H in let here = sets_up e (E ++ H) in omega (arith, before, here)

pub sets_on : (H F : History) → GoesOnFrom H F → sets H ≤ sets F
sets_on H F on = subst (λ (G : History). sets H ≤ sets G) (sym on.is) (sets_more on.more H)

-- the global object of a version stays
global_stays : (c : Setting) (E H : History) → global_at c (E ++ H) (sets H) ≡ global c H
global_stays c [] H = newest_version c H
global_stays c (e ∷ E) H = version_stays c e (E ++ H) (sets H) (sets_more E H) ∙ global_stays c E H

pub global_on : (c : Setting) (H F : History) → GoesOnFrom H F → global_at c F (sets H) ≡ global c H
global_on c H F on = ap (λ (G : History). global_at c G (sets H)) on.is ∙ global_stays c on.more H

pub placed_up : (c : Setting) (H : History) (call : Option PlacedCall) → sets H ≤ sets (with_placed c H call)
placed_up c H None = le_refl (sets H)
placed_up c H (Some call) = sets_up (entry c H call.thread call.op) H

-- a longer past has no fewer versions
pub past_up : (c : Setting) (calls : List PlacedCall) (a b : ℕ) → a ≤ b → sets (history_below c calls a) ≤ sets (history_below c calls b)
past_up c calls a zero le = let none : a ≡ 0 = omega (arith, le) in subst (λ (n : ℕ). sets (history_below c calls n) ≤ 0) (sym none) (le_refl 0)
past_up c calls a (suc b) le =
    elim (cases_lt a (suc b)) [
      | inl lt ↦
          let before = past_up c calls a b (omega (arith, lt)) in
          let here = placed_up c (history_below c calls b) (find (λ (call : PlacedCall). call.place == b) calls) in
          omega (arith, before, here)
      | inr ge ↦ let same : a ≡ suc b = omega (arith, le, ge) in subst (λ (n : ℕ). sets (history_below c calls a) ≤ sets (history_below c calls n)) same (le_refl (sets (history_below c calls a)))
    ]

-- ---- versions that calls print

-- a version that a call prints is that of the history with it
abbrev pub UpTo : ℕ → Option ℕ → Type 0
UpTo n o = All (λ (v : ℕ). v ≤ n) (option_to_list o)

pub none_up : (n : ℕ) → UpTo n None
none_up n = All-nil (λ (v : ℕ). v ≤ n)

pub some_up : (n v : ℕ) → v ≤ n → UpTo n (Some v)
some_up n v le = All-cons (λ (k : ℕ). k ≤ n) v [] le (All-nil (λ (k : ℕ). k ≤ n))

no_version : (n : ℕ) (r : Option Refusal) (reply : table.Reply) → version_made reply ≡ None → UpTo n (version_made (unless r reply))
no_version n None reply none = subst (UpTo n) (sym none) (none_up n)
no_version n (Some refusal) reply none = none_up n

no_version_made : (H : History) (t : ℕ) (row : Option ℕ) → version_made (made_in H t row) ≡ None
no_version_made H t None = refl
no_version_made H t (Some r) = refl

no_version_of : (n : Named) (reply : Handle → table.Reply) → ((h : Handle) → version_made (reply h) ≡ None) → version_made (of_handle n reply) ≡ None
no_version_of Global reply none = refl
no_version_of (Of h) reply none = none h

no_version_got : (cell : Option Handle) → version_made (got cell) ≡ None
no_version_got None = refl
no_version_got (Some h) = refl

new_version : (r : Option Refusal) (H : History) (mask : ℕ) (numbers : List ℕ) (object : Parts)
    → UpTo (if is_accepted (unless r (table.Set (sets H + 1) object)) then suc (sets H) else sets H) (version_made (unless r (table.Set (sets H + 1) object)))
new_version None H mask numbers object = some_up (suc (sets H)) (sets H + 1) (omega arith)
new_version (Some refusal) H mask numbers object = none_up (sets H)

pub call_version : (c : Setting) (H : History) (t : ℕ) (op : table.Op) → UpTo (sets (with_call c H t op)) (version_made (answer c H t op))
call_version c H t (table.New mask numbers None) =
    no_version (sets (with_call c H t (table.New mask numbers None))) (first_reason (reasons c H t (table.New mask numbers None))) (reply_to c H t (table.New mask numbers None)) (no_version_made H t (free_row c H t))
call_version c H t (table.New mask numbers (Some n)) =
    no_version (sets (with_call c H t (table.New mask numbers (Some n)))) (first_reason (reasons c H t (table.New mask numbers (Some n)))) (reply_to c H t (table.New mask numbers (Some n))) (no_version_of n (λ h. table.Made h) (λ h. refl))
call_version c H t (table.Dup n) = no_version (sets (with_call c H t (table.Dup n))) (first_reason (reasons c H t (table.Dup n))) (reply_to c H t (table.Dup n)) (no_version_made H t (free_row c H t))
call_version c H t (table.Free n) = no_version (sets (with_call c H t (table.Free n))) (first_reason (reasons c H t (table.Free n))) table.Freed refl
call_version c H t (table.Use n) = no_version (sets (with_call c H t (table.Use n))) (first_reason (reasons c H t (table.Use n))) (reply_to c H t (table.Use n)) refl
call_version c H t (table.Hold n) = no_version (sets (with_call c H t (table.Hold n))) (first_reason (reasons c H t (table.Hold n))) (reply_to c H t (table.Hold n)) (no_version_of n (λ h. table.Held (histories.object c H h)) (λ h. refl))
call_version c H t (table.Release n) = no_version (sets (with_call c H t (table.Release n))) (first_reason (reasons c H t (table.Release n))) table.Released refl
call_version c H t (table.SetGlobal mask numbers) = new_version (first_reason (reasons c H t (table.SetGlobal mask numbers))) H mask numbers (composed mask (from_shelf c H mask numbers) (global c H))
call_version c H t (table.Install m offer) = no_version (sets (with_call c H t (table.Install m offer))) (first_reason (reasons c H t (table.Install m offer))) (reply_to c H t (table.Install m offer)) refl
call_version c H t (table.Post k n) = no_version (sets (with_call c H t (table.Post k n))) (first_reason (reasons c H t (table.Post k n))) table.Posted refl
call_version c H t (table.Fetch owner k) = no_version (sets (with_call c H t (table.Fetch owner k))) (first_reason (reasons c H t (table.Fetch owner k))) (reply_to c H t (table.Fetch owner k)) (no_version_got (posted H owner k))
call_version c H t (table.Pins n) = no_version (sets (with_call c H t (table.Pins n))) (first_reason (reasons c H t (table.Pins n))) (reply_to c H t (table.Pins n)) (no_version_of n (λ h. table.Pinned (pins c H h)) (λ h. refl))
call_version c H t table.End = no_version (sets (with_call c H t table.End)) (first_reason (reasons c H t table.End)) table.Ended refl

-- ---- a Release after its Hold is accepted

held_is_accepted : (reply : table.Reply) (object : Parts) → object_held reply ≡ Some object → is_accepted reply ≡ true
held_is_accepted (table.Made h) object p = refl
held_is_accepted table.Freed object p = refl
held_is_accepted (table.Was former now) object p = refl
held_is_accepted (table.Held other) object p = refl
held_is_accepted table.Released object p = refl
held_is_accepted (table.Set version other) object p = refl
held_is_accepted (table.Installed count) object p = refl
held_is_accepted table.Posted object p = refl
held_is_accepted (table.Got h) object p = refl
held_is_accepted (table.Pinned count) object p = refl
held_is_accepted table.Ended object p = refl
held_is_accepted (table.Refused refusal) object p = absurd (cc p)

-- what is held can be given back
pub released_after : (c : Setting) (H : History) (t : ℕ) (n : Named) (object : Parts) → object_held (answer c H t (table.Hold n)) ≡ Some object
    → answer c (with_call c H t (table.Hold n)) t (table.Release n) ≡ table.Released
released_after c H t Global object p = absurd (cc p)
released_after c H t (Of h) object p =
    let e : Entry = entry c H t (table.Hold (Of h)) in
    let holds : holding (e ∷ H) t h ≡ true =
    holding_of_caller e H t h refl (held_is_accepted (answer c H t (table.Hold (Of h))) object p)
    ∙ ap (λ (b : Bool). b || holding H t h) (same_itself h)
    in
    ap (λ (b : Bool). unless (first_reason (None ∷ (if b then None else Some refusals.NotHeld) ∷ [])) table.Released) holds
