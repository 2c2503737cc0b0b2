-- The bytes of a source, each with its place, and its logical lines (XCU gencat).
use Rattle.std.specs.Prelude.{ℕ, ◌+◌, Bool, false, ◌&&◌, ◌==◌, List, [], ◌∷◌, if◌then◌else◌}
use Rattle.lc_base.specs.Lines.{is_newline}
use Rattle.msg_catalog.specs.declared.cursor.Spot.{Spot}

-- the byte of a text at this place
abbrev pub spot : ℕ → ℕ → ℕ → Spot
spot line column b = record { place = record { line = line; column = column }; byte = b }

-- whether a line that ends in these two bytes goes on in the next one: \ and LF
abbrev pub goes_on : ℕ → ℕ → Bool
goes_on b c = (b == 92) && is_newline c

-- whether a text begins with a \ and an LF
abbrev pub joins_here : List ℕ → Bool
joins_here [] = false
joins_here (b ∷ []) = false
joins_here (b ∷ c ∷ bs) = goes_on b c

-- the bytes of a text from this place on; where a line goes on in the next one, its \ and its LF are dropped
abbrev pub spots : ℕ → ℕ → List ℕ → List Spot
spots line column [] = []
spots line column (b ∷ []) = spot line column b ∷ []
spots line column (b ∷ c ∷ bs) =
    if goes_on b c then spots (line + 1) 1 bs
    else spot line column b ∷ (if is_newline b then spots (line + 1) 1 (c ∷ bs) else spots line (column + 1) (c ∷ bs))

-- a byte before the first of these lines
abbrev pub onto_front : Spot → List (List Spot) → List (List Spot)
onto_front s [] = (s ∷ []) ∷ []
onto_front s (line ∷ lines) = (s ∷ line) ∷ lines

-- the lines that an LF ends, or the text; what follows the last LF is a line where there is a byte
abbrev pub lines : List Spot → List (List Spot)
lines [] = []
lines (s ∷ ss) = if is_newline s.byte then [] ∷ lines ss else onto_front s (lines ss)

-- the line at the front
abbrev pub front : List Spot → List Spot
front [] = []
front (s ∷ ss) = if is_newline s.byte then [] else s ∷ front ss

-- what follows the line at the front and its LF
abbrev pub behind : List Spot → List Spot
behind [] = []
behind (s ∷ ss) = if is_newline s.byte then ss else behind ss
