-- Texts that lie one behind the other in one block (our own).
use Rattle.std.specs.Prelude.{ℕ, zero, suc, ◌+◌, ◌≤◌, ◌≡◌, List, [], ◌∷◌, ◌++◌, length, take, drop}
use Rattle.std.specs.Int.{w64, to_le_bytes, from_le_bytes}

-- what stands in front of a text of this length: eight bytes, the lowest first
unfoldable pub header : ℕ → List ℕ
header n = to_le_bytes w64 n

-- the length that such bytes say
unfoldable pub header_length : List ℕ → ℕ
header_length bytes = from_le_bytes w64 bytes

-- a text as it lies in a block
abbrev pub framed : List ℕ → List ℕ
framed text = header (length text) ++ text

-- the length of the first text of a block
abbrev pub first_length : List ℕ → ℕ
first_length block = header_length (take 8 block)

-- the first text of a block
abbrev pub first_text : List ℕ → List ℕ
first_text block = take (first_length block) (drop 8 block)

-- what is behind the first text of a block
abbrev pub behind_first : List ℕ → List ℕ
behind_first block = drop (first_length block) (drop 8 block)

-- the texts of a block that has so many
abbrev pub texts_in : ℕ → List ℕ → List (List ℕ)
texts_in zero block = []
texts_in (suc count) block = first_text block ∷ texts_in count (behind_first block)

-- a block has so many texts, and nothing behind them
abbrev pub HasTexts : ℕ → List ℕ → Type 0
HasTexts zero block = block ≡ []
HasTexts (suc count) block = (8 + first_length block ≤ length block) × HasTexts count (behind_first block)
