-- Bytes that come from a source and go to a sink, where these tell them.
use Rattle.std.specs.Prelude.{◌≡◌, ℕ, ◌≤◌, List, length, take, Option}
use Rattle.std.specs.Io.KnownBytes.{Appends, Consumes}

-- just n bytes have come
abbrev pub CameExactly : Option (List ℕ) → Option (List ℕ) → ℕ → Type 0
CameExactly old new n = (bytes : List ℕ) × Consumes old new bytes × (length bytes ≡ n)

-- at most n bytes have come
abbrev pub CameAtMost : Option (List ℕ) → Option (List ℕ) → ℕ → Type 0
CameAtMost old new n = (bytes : List ℕ) × Consumes old new bytes × (length bytes ≤ n)

-- the first bytes of a text, perhaps none or all, were added
abbrev pub AddsPrefix : Option (List ℕ) → Option (List ℕ) → List ℕ → Type 0
AddsPrefix old new text = (n : ℕ) × (n ≤ length text) × Appends old new (take n text)
