-- Logical lines (XBD 7.3), and the places of their bytes.
use Rattle.std.specs.Prelude.{ℕ, ◌+◌, ◌-◌, Bool, List, [], ◌∷◌, ◌++◌, length, nat_lt, slice_index_or, if◌then◌else◌}
use Rattle.lc_base.specs.declared.place.Place.{Place}
use Rattle.src_lines.specs.Words.{blanks, closes}
use Rattle.src_lines.specs.declared.signs.Signs.{Signs}
use Rattle.src_lines.specs.declared.store.Join.{Join}

-- a logical line: the signs in force there, the line of the text where it begins, its bytes, and
-- for each further line that was joined to it where that one's bytes begin
pub record Logical : Type 0 where
  pub signs : Signs
  pub line : ℕ
  pub bytes : List ℕ
  pub joins : List Join

-- a logical line without bytes that begins at this line of the text
abbrev pub fresh : Signs → ℕ → Logical
fresh signs line = record { signs = signs; line = line; bytes = []; joins = [] }

-- a logical line with a further line's bytes
abbrev pub extended : Logical → List ℕ → Logical
extended l part = record l { bytes = l.bytes ++ part }

-- a logical line that goes on in the next line of the text
abbrev pub continued : Logical → ℕ → Logical
continued l next = record l { joins = l.joins ++ (record { at = length l.bytes; line = next }) ∷ [] }

-- the place of the byte k, where the bytes from `at` on stand in this line of the text and further ones follow
abbrev pub place_from : ℕ → ℕ → List Join → ℕ → Place
place_from line at [] k = record { line = line; column = k - at + 1 }
place_from line at (j ∷ js) k =
    if nat_lt k j.at then record { line = line; column = k - at + 1 } else place_from j.line j.at js k

-- the place of a logical line's byte, or of its end
abbrev pub place_at : Logical → ℕ → Place
place_at l k = place_from l.line 0 l.joins k

-- the place of a logical line: that of its first word
abbrev pub start : Logical → Place
start l = place_at l (blanks l.bytes)

-- whether a logical line closes what has this name
abbrev pub closes_line : List ℕ → Logical → Bool
closes_line name l = closes name l.bytes

-- the line with this number, counted from 0
abbrev pub line_at : List Logical → ℕ → Logical
line_at ls i = slice_index_or ls i (fresh (record { escape = 92; comment = 35 }) 1)
