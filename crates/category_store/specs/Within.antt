-- The numbers that names and keys have in a library: those of its compiled locales (our own).
use Rattle.std.specs.Prelude.{ℕ, ◌≤◌, List, length, All}
use Rattle.charset.specs.Portable.{Name}
use Rattle.category_store.specs.declared.names.Names.{Names}

-- names or keys, each with the number of one of so many locales
abbrev pub AreWithin : ℕ → List (Name × ℕ) → Type 0
AreWithin count named = All (λ (e : Name × ℕ). (1 ≤ e.1) × (e.1 ≤ count)) named

-- the names of a library with so many locales
pub record IsWithin (count : ℕ) (n : Names) : Type 0 where
  pub names : length n.names ≤ count
  pub first : AreWithin count n.first
  pub keys : AreWithin count n.keys
