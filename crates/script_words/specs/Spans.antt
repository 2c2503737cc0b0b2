-- Words of a line, each with its place (our own).
use Rattle.std.specs.Prelude.{ℕ, ◌+◌, ◌==◌, Bool, false, ◌||◌, not, List, [], ◌∷◌, length, take, drop, Option, Some, None, if◌then◌else◌}
use Rattle.std.specs.List.{position_or_len}
use Rattle.lc_base.specs.declared.place.Place.{Place}
use Rattle.script_words.specs.declared.stretch.Stretch.{Stretch}
use Rattle.script_words.specs.declared.stretch.Within.{Within}
use Rattle.script_words.specs.declared.stretch.Within.TheVariants.{Bare, Quoted, Escaped}
use Rattle.lc_base.specs.Blanks.{is_blank}

-- bytes of a line, with the place of the first
pub record Span : Type 0 where
  pub place : Place
  pub bytes : List ℕ

-- a stretch without where it lies in memory
abbrev pub span : Stretch → Span
span p = record { place = p.place; bytes = p.bytes.now }

-- a word and what follows it
abbrev pub spans : Stretch × Stretch → Span × Span
spans x = (span x.0, span x.1)

-- the place at which a line begins
abbrev pub start : ℕ → Place
start n = record { line = n; column = 1 }

-- a whole line
abbrev pub whole_line : ℕ → List ℕ → Span
whole_line n line = record { place = start n; bytes = line }

-- the place behind the last byte
abbrev pub end_of : Span → Place
end_of s = record { line = s.place.line; column = s.place.column + length s.bytes }

-- what stands behind the first n bytes
abbrev pub behind : ℕ → Span → Span
behind n s = record { place = record { line = s.place.line; column = s.place.column + n }; bytes = drop n s.bytes }

-- a blank or a quote
abbrev pub stops_bare : ℕ → Bool
stops_bare c = is_blank c || (c == 34)

-- the same without the blanks in front
abbrev pub from_word : Span → Span
from_word s = behind (position_or_len (λ c. not (is_blank c)) s.bytes) s

-- where the byte behind c stands: between quotes or not; behind a backslash between quotes, a byte neither closes them nor
-- escapes the next one
abbrev pub within_after : Within → ℕ → Within
within_after Bare c = if c == 34 then Quoted else Bare
within_after Quoted c = if c == 34 then Bare else (if c == 92 then Escaped else Quoted)
within_after Escaped c = Quoted

-- a blank ends a word, but not between quotes
abbrev pub ends_word : Within → ℕ → Bool
ends_word Bare c = is_blank c
ends_word Quoted c = false
ends_word Escaped c = false

-- how many bytes of a word are left, where the first of them stands so
abbrev pub word_length : Within → List ℕ → ℕ
word_length w [] = 0
word_length w (c ∷ cs) = if ends_word w c then 0 else 1 + word_length (within_after w c) cs

-- the word with which a text begins, and what follows it; none where a blank or nothing stands there
abbrev pub cut_word : Span → Option (Span × Span)
cut_word s =
    let n = word_length Bare s.bytes in
    if n == 0 then None else Some (record { place = s.place; bytes = take n s.bytes }, behind n s)

-- the next word, and what follows it; none where only blanks are left
unfoldable pub next_word : Span → Option (Span × Span)
next_word s = cut_word (from_word s)
