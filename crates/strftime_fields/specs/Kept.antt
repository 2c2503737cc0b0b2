-- What an output keeps of a text that is added to it.
use Rattle.std.specs.Prelude.{ℕ, ◌≤◌, List, length, replicate}

-- an output that asks for memory, one whose bytes are lent, and one that only counts
pub data Kind : Type 0 where
  Growing : Kind
  Lent : Kind
  Counted : Kind

-- all of it, or as many zeros
abbrev pub kept : Kind → List ℕ → List ℕ
kept Growing text = text
kept Lent text = text
kept Counted text = replicate (length text) 0

-- a text may be so long, where so many bytes are lent
abbrev pub Holds : Kind → ℕ → ℕ → Type 0
Holds Growing max lent = Unit {0}
Holds Lent max lent = max ≤ lent
Holds Counted max lent = Unit {0}

-- it may be out of memory
abbrev pub Fails : Kind → Type 0
Fails Growing = Unit {0}
Fails Lent = ⊥
Fails Counted = ⊥
