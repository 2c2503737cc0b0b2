-- The stamps of entries (our own): logical time, by which a history is put in order with another one.
use Rattle.std.specs.Prelude.{◌≡◌, ℕ, ◌≤◌, max, ◌==◌, if◌then◌else◌, [], ◌∷◌, length}
use Rattle.turn_gate.specs.History as turns
use Rattle.catalog_handles.specs.declared.stamped.StampedOp.{StampedOp}
use Rattle.catalog_handles.specs.declared.stamped.StampedReply.{StampedReply}
use Rattle.catalog_handles.specs.Entry.{History}

-- the stamp of the newest entry, and 0 before the first
abbrev pub last_stamp : History → ℕ
last_stamp [] = 0
last_stamp (e ∷ H) = e.stamp

-- along a history stamps never fall
abbrev pub IsRising : History → Type 0
IsRising [] = Unit {0}
IsRising (e ∷ H) = (last_stamp H ≤ e.stamp) × IsRising H

-- the stamp of the entry at a place
abbrev pub stamp_at : History → ℕ → ℕ
stamp_at [] place = 0
stamp_at (e ∷ H) place = if length H == place then e.stamp else stamp_at H place

-- the same of calls on the turns
abbrev pub last_given : {B : Type 0} → turns.History (StampedOp B) (StampedReply B) → ℕ
last_given [] = 0
last_given (e ∷ H) = e.reply.stamp

-- each call hands in a number: its stamp is the larger one of that and the stamp before
abbrev pub AreGiven : {B : Type 0} → turns.History (StampedOp B) (StampedReply B) → Type 0
AreGiven [] = Unit {0}
AreGiven (e ∷ H) = (e.reply.stamp ≡ max (last_given H) e.op.least) × AreGiven H
