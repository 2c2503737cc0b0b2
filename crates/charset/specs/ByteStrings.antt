-- Byte strings in one buffer.
use Rattle.std.specs.Prelude.{ℕ, ◌≤◌, List, length, map, slice_range}

-- the bytes from a place up to another
abbrev pub string_from : List ℕ → ℕ × ℕ → List ℕ
string_from bytes part = slice_range bytes part.0 part.1

-- the byte strings that begin and end so
abbrev pub strings_in : List ℕ → List (ℕ × ℕ) → List (List ℕ)
strings_in bytes parts = map (string_from bytes) parts

-- a part is within the bytes
abbrev pub IsPartOf : List ℕ → ℕ × ℕ → Type 0
IsPartOf bytes part = (part.0 ≤ part.1) × (part.1 ≤ length bytes)
