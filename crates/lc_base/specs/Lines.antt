-- The lines of a text (XBD 3.206, Line; that the last line may lack its newline is our own rule).
use Rattle.std.specs.Prelude.{◌≡◌, ℕ, ◌==◌, Bool, false, List, [], ◌∷◌, ◌++◌, length, drop, nat_eq, Option, Some, None, if◌then◌else◌, ◌⊎◌}
use Rattle.std.specs.List.{starts_with, list_any}

-- a newline, LF
abbrev pub is_newline : ℕ → Bool
is_newline c = c == 10

-- one more byte at the front of the first line
abbrev pub onto_first : ℕ → List (List ℕ) → List (List ℕ)
onto_first c [] = (c ∷ []) ∷ []
onto_first c (line ∷ lines) = (c ∷ line) ∷ lines

-- the lines, each without its newline; the last may lack it
abbrev pub lines_of : List ℕ → List (List ℕ)
lines_of [] = []
lines_of (c ∷ cs) = if is_newline c then [] ∷ lines_of cs else onto_first c (lines_of cs)

-- a line with its newline
abbrev pub ended : List ℕ → List ℕ
ended line = line ++ 10 ∷ []

-- a text is a line with its newline and what follows them
pub record EndsLine (text line rest : List ℕ) : Type 0 where
  pub parts : text ≡ ended line ++ rest
  pub bare : list_any is_newline line ≡ false

-- a text is a line and what follows it: the rest after a newline, or nothing where the newline is lacking
pub record CutsLine (text line rest : List ℕ) : Type 0 where
  pub lines : lines_of text ≡ line ∷ lines_of rest
  pub bare : list_any is_newline line ≡ false
  pub parts : (text ≡ ended line ++ rest) ⊎ ((text ≡ line) × (rest ≡ []))

-- what follows front in a line that begins with it
abbrev pub after : List ℕ → List ℕ → Option (List ℕ)
after front line = if starts_with nat_eq line front then Some (drop (length front) line) else None

-- one part of a text after another, as far as they are there
infixl 10 ◌>>=◌
abbrev pub ◌>>=◌ : {A B : Type 0} → Option A → (A → Option B) → Option B
None >>= f = None
(Some x) >>= f = f x
