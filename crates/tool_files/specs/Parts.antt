-- The sections of a source that a command reads (our own).
use Rattle.std.specs.Prelude.{ℕ, Bool, true, false, List, [], ◌∷◌}

-- a line, or an empty one in its place where it is cut
abbrev pub kept_line : Bool → List ℕ → List ℕ
kept_line false line = line
kept_line true line = []

-- the last line, which lacks its newline; there is none where it is empty
abbrev pub kept_last : Bool → List ℕ → List ℕ
kept_last is_cut [] = []
kept_last false (c ∷ cs) = c ∷ cs
kept_last true (c ∷ cs) = 10 ∷ []
