-- Numbers and sizes of groups as chars.
use Rattle.std.proofs.Common.{◌≡◌, [], ◌∷◌, refl}
use Rattle.std.specs.Prelude.{pos, negsuc}
use Rattle.keywords.specs.LconvChars.{encoded, groups}

-- a number, one that is not told, and one above CHAR_MAX
number : encoded (pos 4) ≡ 4
number = refl

untold : encoded (negsuc 0) ≡ 127
untold = refl

above : encoded (pos 300) ≡ 127
above = refl

-- groups up to a 0; a -1 ends them as 127, and is nothing where it is the first
groups_repeat : groups (pos 3 ∷ pos 2 ∷ []) ≡ 3 ∷ 2 ∷ []
groups_repeat = refl

groups_end : groups (pos 3 ∷ negsuc 0 ∷ pos 2 ∷ []) ≡ 3 ∷ 127 ∷ []
groups_end = refl

groups_zero : groups (pos 3 ∷ pos 0 ∷ pos 2 ∷ []) ≡ 3 ∷ []
groups_zero = refl

groups_first_zero : groups (pos 0 ∷ pos 3 ∷ []) ≡ []
groups_first_zero = refl

groups_none : groups (negsuc 0 ∷ pos 3 ∷ []) ≡ []
groups_none = refl

groups_empty : groups [] ≡ []
groups_empty = refl
