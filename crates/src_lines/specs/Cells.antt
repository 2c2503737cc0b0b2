-- Atoms in cells: a byte with its mark. A name is its bytes and one more cell, which ends it.
use Rattle.std.specs.Prelude.{◌≡◌, ℕ, ◌+◌, Bool, true, false, not, ◌&&◌, List, [], ◌∷◌, ◌++◌, length}
use Rattle.src_lines.specs.declared.line.OperandPiece.TheVariants.{Byte, Name}
use Rattle.src_lines.specs.declared.atom.Atom.{Atom}
use Rattle.src_lines.specs.declared.atom.Atom.TheVariants.{Bare, Number, Made}
use Rattle.src_lines.specs.declared.cells.AtomRef.{AtomRef}
use Rattle.src_lines.specs.declared.cells.AtomRef.TheVariants.{Bare as BareRef, Number as NumberRef, Escaped as EscapedRef, Name as NameRef}
use Rattle.src_lines.specs.declared.cells.CellMark.{CellMark}
use Rattle.src_lines.specs.declared.cells.CellMark.TheVariants.{AsItself, AsNumber, AsEscaped, InName, NameEnd}

-- the atoms of cells, where the bytes of a name came before
abbrev pub atoms_after : List ℕ → List CellMark → List ℕ → List Atom
atoms_after name [] bs = []
atoms_after name (m ∷ ms) [] = []
atoms_after name (AsItself ∷ ms) (b ∷ bs) = Bare b ∷ atoms_after [] ms bs
atoms_after name (AsNumber ∷ ms) (b ∷ bs) = Number b ∷ atoms_after [] ms bs
atoms_after name (AsEscaped ∷ ms) (b ∷ bs) = Made (Byte b) ∷ atoms_after [] ms bs
atoms_after name (InName ∷ ms) (b ∷ bs) = atoms_after (name ++ b ∷ []) ms bs
atoms_after name (NameEnd ∷ ms) (b ∷ bs) = Made (Name name) ∷ atoms_after [] ms bs

-- the atoms of cells
abbrev pub atoms_of : List CellMark → List ℕ → List Atom
atoms_of ms bs = atoms_after [] ms bs

-- whether each name has its end, where a name may be open
abbrev pub are_whole : Bool → List CellMark → Bool
are_whole open_name [] = not open_name
are_whole open_name (AsItself ∷ ms) = not open_name && are_whole false ms
are_whole open_name (AsNumber ∷ ms) = not open_name && are_whole false ms
are_whole open_name (AsEscaped ∷ ms) = not open_name && are_whole false ms
are_whole open_name (InName ∷ ms) = are_whole true ms
are_whole open_name (NameEnd ∷ ms) = are_whole false ms

-- whole cells: a mark for each byte, and no name without its end
pub record IsWhole (ms : List CellMark) (bs : List ℕ) : Type 0 where
  pub same : length ms ≡ length bs
  pub ended : are_whole false ms ≡ true

-- a borrowed atom as an atom
abbrev pub atom_seen : AtomRef → Atom
atom_seen (BareRef b) = Bare b
atom_seen (NumberRef b) = Number b
atom_seen (EscapedRef b) = Made (Byte b)
atom_seen (NameRef name) = Made (Name name.now)

-- how many cells of a name come first
abbrev pub leading : List CellMark → ℕ
leading [] = 0
leading (AsItself ∷ ms) = 0
leading (AsNumber ∷ ms) = 0
leading (AsEscaped ∷ ms) = 0
leading (InName ∷ ms) = leading ms + 1
leading (NameEnd ∷ ms) = 0

-- the atom of a cell behind the bytes of a name
abbrev pub marked : CellMark → List ℕ → ℕ → Atom
marked AsItself name b = Bare b
marked AsNumber name b = Number b
marked AsEscaped name b = Made (Byte b)
marked InName name b = Made (Name name)
marked NameEnd name b = Made (Name name)

-- whether a cell ends an atom, and whether it ends a name
abbrev pub ends_atom : CellMark → Bool
ends_atom AsItself = true
ends_atom AsNumber = true
ends_atom AsEscaped = true
ends_atom InName = false
ends_atom NameEnd = true

abbrev pub ends_name : CellMark → Bool
ends_name AsItself = false
ends_name AsNumber = false
ends_name AsEscaped = false
ends_name InName = false
ends_name NameEnd = true
