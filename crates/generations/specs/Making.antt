-- A history as what was made in it, the newest entry first: a search of it goes from its end to its begin.
use Rattle.std.specs.Prelude.{◌≡◌, ℕ, ◌+◌, ◌<◌, Bool, false, ◌||◌, if◌then◌else◌, List, [], ◌∷◌, length, Option, None, Some}
use Rattle.generations.specs.Kind.{Kind, row, same_handle, is_in_row, nth}

-- an entry of a history: who called, and the handle that was made, if any
pub record Making (A : Type 0) : Type 0 where
  pub who : ℕ
  pub handle : Option A

-- whether there is a handle, and it is this one
abbrev pub is_handle : {A : Type 0} → Kind A → Option A → A → Bool
is_handle k None h = false
is_handle k (Some g) h = same_handle k g h

-- whether an entry made the handle
abbrev pub made : {A : Type 0} → Kind A → List (Making A) → A → Bool
made k [] h = false
made k (m ∷ M) h = is_handle k m.handle h || made k M h

-- the handle, if there is one of this thread in this row, before the others
abbrev pub with_handle : {A : Type 0} → Kind A → ℕ → ℕ → Option A → List A → List A
with_handle k t r None hs = hs
with_handle k t r (Some h) hs = if is_in_row k t r h then h ∷ hs else hs

-- the handles that were made for a thread in a row, the newest first
abbrev pub handles : {A : Type 0} → Kind A → List (Making A) → ℕ → ℕ → List A
handles k [] t r = []
handles k (m ∷ M) t r = with_handle k t r m.handle (handles k M t r)

-- how many handles were made for a thread in a row
abbrev pub makes : {A : Type 0} → Kind A → List (Making A) → ℕ → ℕ → ℕ
makes k M t r = length (handles k M t r)

-- the newest handle of a thread's row; with generation 0, which none has, where nothing was made in it
abbrev pub newest : {A : Type 0} → Kind A → List (Making A) → ℕ → ℕ → A
newest k M t r = nth k t r (makes k M t r)

-- what a thread makes, if anything, is its next handle in one of its rows
abbrev pub IsNext : {A : Type 0} → Kind A → List (Making A) → ℕ → Option A → Type 0
IsNext k M t None = Unit {0}
IsNext k M t (Some g) = g ≡ nth k t (row k g) (makes k M t (row k g) + 1)

-- each handle that was made was the next one of its thread in its row
abbrev pub IsNumbered : {A : Type 0} → Kind A → List (Making A) → Type 0
IsNumbered k [] = Unit {0}
IsNumbered k (m ∷ M) = IsNext k M m.who m.handle × IsNumbered k M

-- the callers are among the first n threads
abbrev pub AreThreads : {A : Type 0} → ℕ → List (Making A) → Type 0
AreThreads n [] = Unit {0}
AreThreads n (m ∷ M) = (m.who < n) × AreThreads n M
