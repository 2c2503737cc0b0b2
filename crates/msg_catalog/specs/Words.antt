-- Words and blanks of a line.
use Rattle.std.specs.Prelude.{ℕ, Bool, true, ◌==◌, List, [], ◌∷◌, Option, Some, None, if◌then◌else◌}
use Rattle.msg_catalog.specs.declared.cursor.Spot.{Spot}
use Rattle.lc_base.specs.Blanks.{is_blank}

-- what follows these bytes, where a line begins with them
abbrev pub after_word : List ℕ → List Spot → Option (List Spot)
after_word [] ss = Some ss
after_word (c ∷ cs) [] = None
after_word (c ∷ cs) (s ∷ ss) = if s.byte == c then after_word cs ss else None

-- what follows the blanks, perhaps none
abbrev pub past_blanks : List Spot → List Spot
past_blanks [] = []
past_blanks (s ∷ ss) = if is_blank s.byte then past_blanks ss else s ∷ ss

-- whether a word ends here: at the line's end, or before a blank
abbrev pub ends_word : List Spot → Bool
ends_word [] = true
ends_word (s ∷ ss) = is_blank s.byte
