-- Handles by their numbers. Each table has a kind of handles of its own, so that none is taken for another's.
use Rattle.std.specs.Prelude.{◌≡◌, ℕ, zero, suc, Bool, ◌==◌, ◌&&◌, List, [], ◌∷◌}
use Rattle.generations.specs.declared.numbers.Numbers.{Numbers}

-- a kind of handles: each has its numbers, and any numbers are those of one handle
pub record Kind (A : Type 0) : Type 0 where
  pub numbers : A → Numbers
  pub handle_of : Numbers → A
  pub same_handle : (h : A) → handle_of (numbers h) ≡ h
  pub same_numbers : (n : Numbers) → numbers (handle_of n) ≡ n

-- the thread that made the handle
abbrev pub owner : {A : Type 0} → Kind A → A → ℕ
owner k h = (k.numbers h).owner

-- the row of its owner that it stands in
abbrev pub row : {A : Type 0} → Kind A → A → ℕ
row k h = (k.numbers h).row

-- how many were made in the row with it
abbrev pub generation : {A : Type 0} → Kind A → A → ℕ
generation k h = (k.numbers h).generation

-- whether two handles are one
abbrev pub same_handle : {A : Type 0} → Kind A → A → A → Bool
same_handle k g h = owner k g == owner k h && row k g == row k h && generation k g == generation k h

-- whether the handle is one of this thread in this row
abbrev pub is_in_row : {A : Type 0} → Kind A → ℕ → ℕ → A → Bool
is_in_row k t r h = owner k h == t && row k h == r

-- the n-th handle of a thread in a row
abbrev pub nth : {A : Type 0} → Kind A → ℕ → ℕ → ℕ → A
nth k t r n = k.handle_of (record { owner = t; row = r; generation = n })

-- the first n handles of a thread in a row, the newest first
abbrev pub numbered : {A : Type 0} → Kind A → ℕ → ℕ → ℕ → List A
numbered k t r zero = []
numbered k t r (suc n) = nth k t r (suc n) ∷ numbered k t r n
