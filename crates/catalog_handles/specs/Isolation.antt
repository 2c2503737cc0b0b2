-- Threads that share catalog handles with themselves alone.
use Rattle.std.specs.Prelude.{◌≡◌, ℕ, Bool, true, false, ◌==◌, not, if◌then◌else◌, List, [], ◌∷◌, Option, None, Some}
use Rattle.std.specs.List.{list_any}
use Rattle.catalog_handles.specs.declared.handle.CatalogHandle.{CatalogHandle}
use Rattle.catalog_handles.specs.declared.setting.CatalogSetting.{CatalogSetting}
use Rattle.catalog_handles.specs.Entry.{Op, Entry, History, named_by}
use Rattle.catalog_handles.specs.Answer.{answer, entry, IsLegal}

-- whether the thread is one of the list
abbrev pub has_thread : List ℕ → ℕ → Bool
has_thread S t = list_any (λ s. s == t) S

-- whether there is a handle, and one of the threads owns it
abbrev pub is_owned : List ℕ → Option CatalogHandle → Bool
is_owned S None = false
is_owned S (Some h) = has_thread S h.owner

-- whether there is no handle, or one of the threads owns it
abbrev pub is_own : List ℕ → Option CatalogHandle → Bool
is_own S None = true
is_own S (Some h) = has_thread S h.owner

-- whether an entry keeps the threads apart from the others: one of theirs names only handles that they
-- own, and one of another thread names none of these
abbrev pub keeps_apart : List ℕ → Entry → Bool
keeps_apart S e = if has_thread S e.who then is_own S (named_by e.op) else not (is_owned S (named_by e.op))

-- the history is closed for the threads: each of its entries, also a refused one, keeps them apart
abbrev pub IsClosed : List ℕ → History → Type 0
IsClosed S [] = Unit {0}
IsClosed S (e ∷ H) = (keeps_apart S e ≡ true) × IsClosed S H

-- the part of the threads: their entries, in order
abbrev pub part_of : List ℕ → History → History
part_of S [] = []
part_of S (e ∷ H) = if has_thread S e.who then e ∷ part_of S H else part_of S H

-- ---- laws

-- the part of a legal history that is closed for the threads is legal by itself, and answers each of their calls
-- that keeps them apart as the whole does
abbrev pub PartIsLegal : Type 0
PartIsLegal = (c : CatalogSetting) (S : List ℕ) (H : History) → IsLegal c H → IsClosed S H → IsLegal c (part_of S H)

abbrev pub PartAnswersTheSame : Type 0
PartAnswersTheSame =
    (c : CatalogSetting) (S : List ℕ) (H : History) (t : ℕ) (op : Op) (stamp : ℕ) → IsLegal c H → has_thread S t ≡ true
    → IsClosed S (entry c H t op stamp ∷ H) → answer c H t op ≡ answer c (part_of S H) t op
