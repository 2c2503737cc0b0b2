-- A name that is read byte by byte.
use Rattle.std.proofs.Common.{ℕ, ◌+◌, List, ◌++◌, Option, Some, None}

-- what was read before, and what is still read
abbrev pub name_after : List ℕ → ℕ → Option (List ℕ) × ℕ → Option (List ℕ) × ℕ
name_after front k (None, n) = (None, k + n)
name_after front k (Some text, n) = (Some (front ++ text), k + n)
