-- Rows that are used again. What keeps a handle differs between tables; what they share is that a new handle
-- goes into a row in which none is kept.
use Rattle.std.specs.Prelude.{◌≡◌, ℕ, Bool, true, false, nat_lt, not, ◌&&◌, List, [], ◌∷◌, map, Option, None, Some}
use Rattle.std.specs.List.{list_any}
use Rattle.generations.specs.Kind.{Kind, row}
use Rattle.generations.specs.Making.{Making, made, handles, makes, IsNext}
use Rattle.generations.specs.Least.{least_below}

-- handles of a kind A over histories with entries E: what an entry made, which handles are kept after a history,
-- and how many rows each thread and generations each row has
pub record Store (A E : Type 0) : Type 0 where
  pub kind : Kind A
  pub making : E → Making A
  pub is_kept : List E → A → Bool
  pub rows : ℕ
  pub generations : ℕ

-- what was made in a history
abbrev pub makings : {A E : Type 0} → Store A E → List E → List (Making A)
makings s H = map s.making H

-- a row of a thread is free where none of its handles is kept, and it has generations left
abbrev pub is_free : {A E : Type 0} → Store A E → List E → ℕ → ℕ → Bool
is_free s H t r =
    not (list_any (s.is_kept H) (handles s.kind (makings s H) t r)) && nat_lt (makes s.kind (makings s H) t r) s.generations

-- the least free row of a thread, or none
abbrev pub free_row : {A E : Type 0} → Store A E → List E → ℕ → Option ℕ
free_row s H t = least_below s.rows (is_free s H t)

-- a handle, if there is one, stands in the thread's least free row
abbrev pub IsInFreeRow : {A E : Type 0} → Store A E → List E → ℕ → Option A → Type 0
IsInFreeRow s H t None = Unit {0}
IsInFreeRow s H t (Some g) = free_row s H t ≡ Some (row s.kind g)

-- a new handle is the next one of its thread in its least free row
abbrev pub IsNew : {A E : Type 0} → Store A E → List E → ℕ → Option A → Type 0
IsNew s H t o = IsInFreeRow s H t o × IsNext s.kind (makings s H) t o

-- each handle was new when it was made
abbrev pub AllNew : {A E : Type 0} → Store A E → List E → Type 0
AllNew s [] = Unit {0}
AllNew s (e ∷ H) = IsNew s H (s.making e).who (s.making e).handle × AllNew s H

-- a handle that was made is never kept again once it is not
abbrev pub NoneComesBack : {A E : Type 0} → Store A E → List E → Type 0
NoneComesBack {A} s [] = Unit {0}
NoneComesBack {A} s (e ∷ H) =
    ((h : A) → made s.kind (makings s H) h ≡ true → s.is_kept H h ≡ false → s.is_kept (e ∷ H) h ≡ false) × NoneComesBack s H

-- a history that the rows of a store have: each handle was new when it was made, none comes back, and only what was
-- made is kept
pub record IsInOrder {A E : Type 0} (s : Store A E) (H : List E) : Type 0 where
  pub new : AllNew s H
  pub gone : NoneComesBack s H
  pub known : (h : A) → made s.kind (makings s H) h ≡ false → s.is_kept H h ≡ false
