-- Encodings in a charmap (XBD 6.4): one to four bytes, each written as a number.
use Rattle.std.specs.Prelude.{ℕ, Bool, ◌==◌, ◌&&◌, not, ◌||◌, List, [], ◌∷◌, length, slice_index, Option, Some, None, if◌then◌else◌}
use Rattle.std.specs.Int.{is_in_range}
use Rattle.src_lines.specs.declared.atom.Atom.{Atom}
use Rattle.src_lines.specs.declared.atom.Atom.TheVariants.{Number}

-- the byte of an atom that is a number
abbrev pub atom_number : Atom → Option ℕ
atom_number (Number b) = Some b
atom_number _ = None

-- a byte before others, where both are there
abbrev pub and_bytes : Option ℕ → Option (List ℕ) → Option (List ℕ)
and_bytes (Some b) (Some bs) = Some (b ∷ bs)
and_bytes _ _ = None

-- the bytes that atoms write, where each is a number
abbrev pub numbers : List Atom → Option (List ℕ)
numbers [] = Some []
numbers (atom ∷ atoms) = and_bytes (atom_number atom) (numbers atoms)

-- bytes that may encode a character: one to four, and no zero before others, so that a wide value has one encoding
-- (the latter is our own rule)
abbrev pub is_encoding : List ℕ → Bool
is_encoding bs = is_in_range 1 4 (length bs) && (length bs == 1 || not (slice_index bs 0 == 0))

-- the encoding that a whole field is
abbrev pub encoding : List Atom → Option (List ℕ)
encoding atoms = elim (numbers atoms) [
  | None ↦ None
  | Some bs ↦ if is_encoding bs then Some bs else None
]
