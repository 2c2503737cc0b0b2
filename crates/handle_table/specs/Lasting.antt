-- What later entries leave of a history, whatever they are.
use Rattle.std.specs.Prelude.{◌≡◌, ◌≢◌, ℕ, ◌≤◌, false, true, ◌∷◌, ◌++◌}
use Rattle.lc_base.specs.declared.handle.Handle.{Handle}
use Rattle.handle_table.specs.Entry.{Entry, History, Setting}
use Rattle.handle_table.specs.History.{made, live, object, sets, global, global_at}
use Rattle.handle_table.specs.Answer.{IsLegal, own}
use Rattle.handle_table.specs.Table.{has_base}

-- a handle that was freed is never live again
abbrev pub FreedStays : Type 0
FreedStays = (c : Setting) (G H : History) (h : Handle) → IsLegal c (G ++ H) → made H h ≡ true → live H h ≡ false → live (G ++ H) h ≡ false

-- the object of a handle that was made is changed by an accepted New with the handle as base, and by no other entry
abbrev pub ObjectStays : Type 0
ObjectStays =
    (c : Setting) (e : Entry) (H : History) (h : Handle) → IsLegal c (e ∷ H) → made H h ≡ true → has_base e.op h ≡ false
    → object c (e ∷ H) h ≡ object c H h

-- what a thread took up is as it was after an entry of another thread
abbrev pub OwnStays : Type 0
OwnStays = (e : Entry) (H : History) (t : ℕ) → t ≢ e.who → own (e ∷ H) t ≡ own H t

-- the number of versions of the global locale never falls
abbrev pub SetsNeverFall : Type 0
SetsNeverFall = (G H : History) → sets H ≤ sets (G ++ H)

-- no later entry changes a version of the global locale, and the newest version is the global locale
abbrev pub VersionsStay : Type 0
VersionsStay = (c : Setting) (G H : History) (k : ℕ) → k ≤ sets H → global_at c (G ++ H) k ≡ global_at c H k

abbrev pub NewestVersion : Type 0
NewestVersion = (c : Setting) (H : History) → global_at c H (sets H) ≡ global c H
