-- Words of a line, and which text is a charmap (our own).
use Rattle.std.specs.Prelude.{ℕ, ◌==◌, Bool, false, not, ◌||◌, List, [], ◌∷◌, drop, codes, Option, Some, None, unwrap_or, if◌then◌else◌}
use Rattle.std.specs.List.{list_any, list_all, position_or_len}
use Rattle.lc_base.specs.Blanks.{is_blank}
use Rattle.lc_base.specs.Lines.{lines_of, after, ◌>>=◌}

-- a blank, or the CR of a line that ends in CR LF
abbrev pub is_blank_or_return : ℕ → Bool
is_blank_or_return c = is_blank c || (c == 13)

-- what stands behind the blanks with which a line begins
abbrev pub from_word : List ℕ → List ℕ
from_word line = drop (position_or_len (λ c. not (is_blank_or_return c)) line) line

-- whether what follows a word is there and has only blanks
abbrev pub is_only_blank : Option (List ℕ) → Bool
is_only_blank None = false
is_only_blank (Some rest) = list_all is_blank_or_return rest

-- a line with just this word
abbrev pub is_alone : List ℕ → List ℕ → Bool
is_alone word line = is_only_blank (after word (from_word line))

-- what stands behind a blank
abbrev pub behind_blank : List ℕ → Option (List ℕ)
behind_blank [] = None
behind_blank (c ∷ rest) = if is_blank_or_return c then Some rest else None

-- what stands behind this word and a blank in a line that begins with them
abbrev pub operand : List ℕ → List ℕ → Option (List ℕ)
operand word line = after word (from_word line) >>= behind_blank

-- a line without the byte order mark, U+FEFF in UTF-8, with which it begins
abbrev pub from_mark : List ℕ → List ℕ
from_mark line = unwrap_or (after (239 ∷ 187 ∷ 191 ∷ []) line) line

-- whether a text is a charmap: it has a line with the one word `CHARMAP`
abbrev pub is_charmap : List ℕ → Bool
is_charmap text = list_any (is_alone (codes "CHARMAP")) (lines_of text)
