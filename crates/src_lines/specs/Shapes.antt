-- What a whole run is (XBD 7.3.1): dots, a pair or plain.
use Rattle.std.specs.Prelude.{ℕ, Bool, false, ◌&&◌, ◌==◌, List, [], ◌∷◌, drop, map, count_by, if◌then◌else◌}
use Rattle.src_lines.specs.declared.line.Operand.{Operand}
use Rattle.src_lines.specs.declared.line.Operand.TheVariants.{Plain, Dots, Pair}
use Rattle.src_lines.specs.declared.atom.Atom.{Atom}
use Rattle.src_lines.specs.Atoms.{is_bare, piece}

-- three bare dots
abbrev pub is_dots : List Atom → Bool
is_dots [] = false
is_dots (a ∷ []) = false
is_dots (a ∷ b ∷ []) = false
is_dots (a ∷ b ∷ c ∷ []) = is_bare 46 a && (is_bare 46 b && is_bare 46 c)
is_dots (a ∷ b ∷ c ∷ d ∷ us) = false

-- whether the first atom is this byte, bare
abbrev pub starts : ℕ → List Atom → Bool
starts b [] = false
starts b (u ∷ us) = is_bare b u

-- whether the last atom is this byte, bare
abbrev pub stops : ℕ → List Atom → Bool
stops b [] = false
stops b (u ∷ []) = is_bare b u
stops b (u ∷ v ∷ us) = stops b (v ∷ us)

-- a pair: a run from a bare `(` to a bare `)` with just one bare `,`
abbrev pub is_pair : List Atom → Bool
is_pair us = starts 40 us && (stops 41 us && (count_by (is_bare 44) us == 1))

-- what stands before the first atom that is this byte, bare, and what stands behind it
abbrev pub before_bare : ℕ → List Atom → List Atom
before_bare b [] = []
before_bare b (u ∷ us) = if is_bare b u then [] else u ∷ before_bare b us

abbrev pub behind_bare : ℕ → List Atom → List Atom
behind_bare b [] = []
behind_bare b (u ∷ us) = if is_bare b u then us else behind_bare b us

-- all atoms but the last
abbrev pub without_last : List Atom → List Atom
without_last [] = []
without_last (u ∷ []) = []
without_last (u ∷ v ∷ us) = u ∷ without_last (v ∷ us)

-- the pair of a run: what stands between its `(` and its `,`, and between that and its `)`
abbrev pub pair : List Atom → Operand
pair us = Pair (map piece (before_bare 44 (drop 1 us))) (map piece (without_last (behind_bare 44 (drop 1 us))))

-- what a whole run is
abbrev pub shape : List Atom → Operand
shape us = if is_dots us then Dots else (if is_pair us then pair us else Plain (map piece us))
