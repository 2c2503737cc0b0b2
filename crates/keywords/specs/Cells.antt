-- The values of a keyword line, as they are kept: a cell each, and beside the cells the pairs and the bytes that are too long for one.
use Rattle.std.specs.Prelude.{◌≡◌, ℕ, ◌+◌, ◌<◌, ◌≤◌, List, length, take, map, get_or, slice_range}
use Rattle.lc_base.specs.declared.place.Place.{Place}
use Rattle.keywords.specs.declared.source.Value.{Value}
use Rattle.keywords.specs.declared.source.Value.TheVariants.{Text, Number, Chars, Pair}
use Rattle.keywords.specs.declared.cells.ValueRef.{ValueRef}
use Rattle.keywords.specs.declared.cells.ValueRef.TheVariants.{Text as TextRef, Number as NumberRef, Chars as CharsRef, Pair as PairRef}
use Rattle.keywords.specs.declared.cells.Content.{Content}
use Rattle.keywords.specs.declared.cells.Content.TheVariants.{Short, Long, Number as Whole, One, Range, Pair as Two}
use Rattle.keywords.specs.declared.cells.Cell.{Cell}

-- a borrowed value as a value
abbrev pub seen : ValueRef → Value
seen (TextRef text) = Text text.now
seen (NumberRef n) = Number n
seen (CharsRef a b) = Chars a b
seen (PairRef a b) = Pair a b

abbrev pub Pairs : Type 0
Pairs = List (ℕ × ℕ)

-- the pair with a number
abbrev pub pair_at : Pairs → ℕ → ℕ × ℕ
pair_at pairs i = get_or pairs i (0, 0)

-- the value of a cell
abbrev pub value_in : Pairs → List ℕ → Content → Value
value_in pairs bytes (Short n start) = Text (slice_range bytes start (start + n))
value_in pairs bytes (Long i) = Text (slice_range bytes (pair_at pairs i).0 (pair_at pairs i).1)
value_in pairs bytes (Whole n) = Number n
value_in pairs bytes (One a) = Chars a a
value_in pairs bytes (Range i) = Chars (pair_at pairs i).0 (pair_at pairs i).1
value_in pairs bytes (Two i) = Pair (pair_at pairs i).0 (pair_at pairs i).1

abbrev pub cell_in : Pairs → List ℕ → Cell → Place × Value
cell_in pairs bytes c = (c.place, value_in pairs bytes c.content)

-- the values of cells
abbrev pub values_in : Pairs → List ℕ → List Cell → List (Place × Value)
values_in pairs bytes cells = map (cell_in pairs bytes) cells

-- a longer text lies within the bytes
pub record IsLongWithin (pairs : Pairs) (bytes : List ℕ) (i : ℕ) : Type 0 where
  pub there : i < length pairs
  pub in_order : (pair_at pairs i).0 ≤ (pair_at pairs i).1
  pub within : (pair_at pairs i).1 ≤ length bytes

-- what a cell points to is there
abbrev pub IsWithin : Pairs → List ℕ → Content → Type 0
IsWithin pairs bytes (Short n start) = start + n ≤ length bytes
IsWithin pairs bytes (Long i) = IsLongWithin pairs bytes i
IsWithin pairs bytes (Whole n) = Unit {0}
IsWithin pairs bytes (One a) = Unit {0}
IsWithin pairs bytes (Range i) = i < length pairs
IsWithin pairs bytes (Two i) = i < length pairs

abbrev pub IsCellWithin : Pairs → List ℕ → Cell → Type 0
IsCellWithin pairs bytes c = IsWithin pairs bytes c.content

-- pairs and bytes with more behind them
pub record Extends (pairs : Pairs) (bytes : List ℕ) (more_pairs : Pairs) (more_bytes : List ℕ) : Type 0 where
  pub pairs_stay : take (length pairs) more_pairs ≡ pairs
  pub bytes_stay : take (length bytes) more_bytes ≡ bytes
