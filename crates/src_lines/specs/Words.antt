-- Words of a line: what stands between blanks.
use Rattle.std.specs.Prelude.{ℕ, ◌+◌, Bool, ◌&&◌, ◌==◌, List, [], ◌∷◌, length, take, drop, codes, if◌then◌else◌}
use Rattle.std.specs.Str.{bytes_eq}
use Rattle.lc_base.specs.Blanks.{is_blank}

-- how many blanks come first
abbrev pub blanks : List ℕ → ℕ
blanks [] = 0
blanks (b ∷ bs) = if is_blank b then blanks bs + 1 else 0

-- how many bytes come before the first blank, or the end
abbrev pub solid : List ℕ → ℕ
solid [] = 0
solid (b ∷ bs) = if is_blank b then 0 else solid bs + 1

-- the next word: the blanks before it, the word, perhaps empty, and what follows it
pub record Word : Type 0 where
  pub skipped : ℕ
  pub text : List ℕ
  pub rest : List ℕ

-- the next word of a text
abbrev pub next_word : List ℕ → Word
next_word bs =
    let front = drop (blanks bs) bs in
    record { skipped = blanks bs; text = take (solid front) front; rest = drop (solid front) front }

-- the first two words of a text, perhaps empty
abbrev pub first_word : List ℕ → List ℕ
first_word bs = (next_word bs).text

abbrev pub second_word : List ℕ → List ℕ
second_word bs = (next_word (next_word bs).rest).text

-- whether a line closes what has this name: just the two words END and the name
abbrev pub closes : List ℕ → List ℕ → Bool
closes name bs =
    let first = next_word bs in
    let second = next_word first.rest in
    bytes_eq first.text (codes "END") && bytes_eq second.text name && (length (next_word second.rest).text == 0)
