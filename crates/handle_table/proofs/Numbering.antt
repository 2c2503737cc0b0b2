-- Each handle of a locale object is new when it is made: the next one of its thread in its least free row.
use Rattle.std.proofs.Common.{◌≡◌, ℕ, ◌≤◌, true, false, [], ◌∷◌, Option, None, Some, refl, sym, subst}
use Rattle.generations.specs.Making.{IsNumbered}
use Rattle.generations.specs.Store.{IsNew, AllNew}
use Rattle.generations.proofs.Numbering as numbering
use Rattle.generations.proofs.Newest.{all_numbered}
use Rattle.lc_base.specs.declared.handle.Handle.{Handle}
use Rattle.handle_table.specs.declared.op.Refusal.{Refusal}
use Rattle.handle_table.specs.Numbers.{object_handles}
use Rattle.handle_table.specs.Entry.{Op, New, Dup, Free, Use, Hold, Release, SetGlobal, Post, Fetch, Pins, End, Install, Reply, Entry, History, Setting, same_handle}
use Rattle.handle_table.specs.History.{handle_in, handle_made, making, makings, makes_handle, made, makes, objects, free_row}
use Rattle.handle_table.specs.Answer.{first_reason, reasons, unless, made_in, answer, IsLegal}

-- two handles that are one have the same numbers
pub same_handles : (g h : Handle) → same_handle g h ≡ true → g ≡ h
same_handles = numbering.same_handles object_handles

-- a handle is itself
pub same_itself : (h : Handle) → same_handle h h ≡ true
same_itself = numbering.same_itself object_handles

new_made_in : (c : Setting) (H : History) (t : ℕ) (row : Option ℕ) → free_row c H t ≡ row → IsNew (objects c) H t (handle_in (made_in H t row))
new_made_in c H t None is = (tt, tt)
new_made_in c H t (Some r) is = (is, refl)

new_unless : (c : Setting) (H : History) (t : ℕ) (refusal : Option Refusal) (reply : Reply) → IsNew (objects c) H t (handle_in reply)
    → IsNew (objects c) H t (handle_in (unless refusal reply))
new_unless c H t (Some refusal) reply p = (tt, tt)
new_unless c H t None reply p = p

-- the handle that a call makes is new
new_answer : (c : Setting) (H : History) (t : ℕ) (op : Op) → IsNew (objects c) H t (handle_made op (answer c H t op))
new_answer c H t (New mask numbers None) = new_unless c H t (first_reason (reasons c H t (New mask numbers None))) (made_in H t (free_row c H t)) (new_made_in c H t (free_row c H t) refl)
new_answer c H t (New mask numbers (Some n)) = (tt, tt)
new_answer c H t (Dup n) = new_unless c H t (first_reason (reasons c H t (Dup n))) (made_in H t (free_row c H t)) (new_made_in c H t (free_row c H t) refl)
new_answer c H t (Free n) = (tt, tt)
new_answer c H t (Use n) = (tt, tt)
new_answer c H t (Hold n) = (tt, tt)
new_answer c H t (Release n) = (tt, tt)
new_answer c H t (SetGlobal mask numbers) = (tt, tt)
new_answer c H t (Post k n) = (tt, tt)
new_answer c H t (Fetch owner k) = (tt, tt)
new_answer c H t (Pins n) = (tt, tt)
new_answer c H t End = (tt, tt)
new_answer c H t (Install name offer) = (tt, tt)

-- the handle that a legal entry makes is new
pub new_entry : (c : Setting) (e : Entry) (H : History) → IsLegal c (e ∷ H) → IsNew (objects c) H e.who (handle_made e.op e.reply)
new_entry c e H legal = subst (λ (r : Reply). IsNew (objects c) H e.who (handle_made e.op r)) (sym legal.0) (new_answer c H e.who e.op)

-- each handle of a legal history was new
pub all_new : (c : Setting) (H : History) → IsLegal c H → AllNew (objects c) H
all_new c [] legal = tt
all_new c (e ∷ H) legal = (new_entry c e H legal, all_new c H legal.1)

pub legal_numbered : (c : Setting) (H : History) → IsLegal c H → IsNumbered object_handles (makings H)
legal_numbered c H legal = all_numbered (objects c) H (all_new c H legal)

-- a handle that was made has a generation from 1 up to the number of those made in its row
pub made_within : (c : Setting) (H : History) → IsLegal c H → (h : Handle) → made H h ≡ true
    → (1 ≤ h.generation) × (h.generation ≤ makes H h.owner h.row)
made_within c H legal = numbering.made_within object_handles (makings H) (legal_numbered c H legal)

-- an entry makes no handle that was made before
pub made_once : (c : Setting) (e : Entry) (H : History) (h : Handle) → IsLegal c (e ∷ H) → made H h ≡ true → makes_handle e h ≡ false
made_once c e H h legal before = numbering.made_once object_handles (making e) (makings H) h (legal_numbered c (e ∷ H) legal) before

-- what an entry makes is its caller's
pub maker_owns : (c : Setting) (e : Entry) (H : History) (h : Handle) → IsLegal c (e ∷ H) → makes_handle e h ≡ true → e.who ≡ h.owner
maker_owns c e H h legal here = (numbering.made_next object_handles (making e) (makings H) h (legal_numbered c (e ∷ H) legal) here).0
