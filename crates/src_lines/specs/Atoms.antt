-- Atoms of a logical line (XBD 7.3.1 and 7.4): bytes that stand bare, escaped bytes, numbers, and characters' names.
use Rattle.std.specs.Prelude.{◌≡◌, ◌<◌, ◌≤◌, length, ℕ, zero, suc, ◌+◌, ◌-◌, ◌*◌, Bool, true, false, ◌&&◌, ◌==◌, nat_lt, nat_le, List, [], ◌∷◌, slice_index, drop, Option, Some, None, Result, Ok, Err, if◌then◌else◌}
use Rattle.lc_base.specs.declared.place.Place.{Place}
use Rattle.lc_base.specs.declared.reason.Reason.{Reason}
use Rattle.lc_base.specs.declared.reason.Reason.TheVariants.{BadEscape, OpenName}
use Rattle.src_lines.specs.declared.line.OperandPiece.{OperandPiece}
use Rattle.src_lines.specs.declared.line.OperandPiece.TheVariants.{Byte, Name}
use Rattle.src_lines.specs.declared.atom.Atom.{Atom}
use Rattle.src_lines.specs.declared.atom.Atom.TheVariants.{Bare, Number, Made}
use Rattle.src_lines.specs.declared.atom.Notation.{Notation}
use Rattle.lc_base.specs.Blanks.{is_blank}
use Rattle.src_lines.specs.Places.{Logical, place_at}

-- whether an atom is this byte, bare
abbrev pub is_bare : ℕ → Atom → Bool
is_bare b (Bare c) = c == b
is_bare b (Number c) = false
is_bare b (Made p) = false

-- an atom as a piece
abbrev pub piece : Atom → OperandPiece
piece (Bare b) = Byte b
piece (Number b) = Byte b
piece (Made p) = p

-- the value of a digit up to f, or 16
abbrev pub digit : ℕ → ℕ
digit b =
    if nat_le 48 b && nat_le b 57 then b - 48
    else (if nat_le 97 b && nat_le b 102 then b - 87
    else (if nat_le 65 b && nat_le b 70 then b - 55 else 16))

-- how numbers are written
abbrev pub decimal : Notation
decimal = record { base = 10; most = 3 }

abbrev pub hexadecimal : Notation
hexadecimal = record { base = 16; most = 2 }

abbrev pub octal : Notation
octal = record { base = 8; most = 3 }

-- the number at the front, of two digits, or of three where that many may be and are, and its digits
abbrev pub number : Notation → List ℕ → Option (ℕ × ℕ)
number n bs =
    let a = digit (slice_index bs 0) in
    let b = digit (slice_index bs 1) in
    let c = digit (slice_index bs 2) in
    if nat_lt a n.base && nat_lt b n.base
    then (if nat_lt 2 n.most && nat_lt c n.base then Some ((a * n.base + b) * n.base + c, 3) else Some (a * n.base + b, 2))
    else None

-- what is read at a byte of a line: an atom, or a fault that begins there, and how many bytes go with it
abbrev pub Read : Type 0
Read = Result Atom Reason × ℕ

-- a number is a byte where it is below 256, and it takes its digits and those bytes that come before them
abbrev pub number_atom : ℕ → Option (ℕ × ℕ) → Read
number_atom lead None = (Err BadEscape, 2)
number_atom lead (Some n) = if nat_lt n.0 256 then (Ok (Number n.0), lead + n.1) else (Err BadEscape, 2)

-- what the escape character makes of the bytes after it, and how many bytes go with it
abbrev pub escaped : List ℕ → Read
escaped [] = (Err BadEscape, 1)
escaped (b ∷ bs) =
    if b == 100 then number_atom 2 (number decimal bs)
    else (if b == 120 then number_atom 2 (number hexadecimal bs)
    else (if nat_lt (digit b) 8 then number_atom 1 (number octal (b ∷ bs)) else (Ok (Made (Byte b)), 2)))

-- one more byte of a name
abbrev pub name_more : ℕ → Option (List ℕ) × ℕ → Option (List ℕ) × ℕ
name_more b (None, n) = (None, n + 1)
name_more b (Some name, n) = (Some (b ∷ name), n + 1)

-- the name up to its `>`, if that comes before a blank and the end, and the bytes that go by; taken says that an
-- escape character came before
abbrev pub name : ℕ → Bool → List ℕ → Option (List ℕ) × ℕ
name escape taken [] = (None, 0)
name escape true (b ∷ bs) = name_more b (name escape false bs)
name escape false (b ∷ bs) =
    if b == escape then (let x = name escape true bs in (x.0, x.1 + 1))
    else (if b == 62 then (Some [], 1)
    else (if is_blank b then (None, 0) else name_more b (name escape false bs)))

-- a character's name
abbrev pub name_atom : Option (List ℕ) × ℕ → Read
name_atom (None, n) = (Err OpenName, n + 1)
name_atom (Some text, n) = (Ok (Made (Name text)), n + 1)

-- what begins with the byte b, before the others, and its bytes
abbrev pub atom : ℕ → ℕ → List ℕ → Read
atom escape b bs =
    if is_blank b then (Ok (Bare b), 1)
    else (if b == escape then escaped bs
    else (if b == 60 then name_atom (name escape false bs) else (Ok (Bare b), 1)))

-- an atom or a fault, with its place
pub record Item : Type 0 where
  pub place : Place
  pub atom : Result Atom Reason

-- the items of a line from the byte `at` on, which bs begins with; so many of its bytes belong to the one before
abbrev pub items : Logical → ℕ → ℕ → List ℕ → List Item
items l skip at [] = []
items l (suc skip) at (b ∷ bs) = items l skip (at + 1) bs
items l zero at (b ∷ bs) =
    let u = atom l.signs.escape b bs in
    record { place = place_at l at; atom = u.0 } ∷ items l (u.1 - 1) (at + 1) bs

-- the items from the byte `at` on
unfoldable pub items_from : Logical → ℕ → List Item
items_from l at = items l 0 at (drop at l.bytes)

-- what stands at the byte `at`: nothing more, or an item, up to where the next one begins
abbrev pub IsNext : Logical → ℕ → Option Read → Type 0
IsNext l at None = items_from l at ≡ []
IsNext l at (Some x) =
    (items_from l at ≡ record { place = place_at l at; atom = x.0 } ∷ items_from l x.1) × (at < x.1) × (x.1 ≤ length l.bytes)

-- the atoms, where they are at most so many
abbrev pub up_to : ℕ → List Atom → Option (List Atom)
up_to max us = if nat_le (length us) max then Some us else None
