-- The names of a charmap as they are kept: fronts, and spans of tails.
use Rattle.std.specs.Prelude.{◌≡◌, ℕ, ◌+◌, ◌^◌, ◌<◌, ◌≤◌, Bool, true, false, List, [], ◌++◌, length, get_or, map, flat_map, All, Some, None}
use Rattle.std.specs.List.{range_with_len}
use Rattle.charset.specs.Limits.{NAME_LIMIT}
use Rattle.charset.specs.declared.spans.Block.{Block}
use Rattle.charset.specs.declared.spans.Span.{Span}
use Rattle.charset.specs.Portable.{Name}
use Rattle.charset.specs.Numbering.{padded, name_after}
use Rattle.charset.specs.Tails.{IsFront}
use Rattle.charset.specs.ShortBytes.{shortest}
use Rattle.charset.specs.Entries.{Entry, added}

-- the name of a front with the tail that has this place in a block, and its encoding
abbrev pub block_entry : Name → Block → ℕ → Entry
block_entry front b k = (front ++ padded b.width (b.first + k), shortest (b.value + k))

-- all of them
abbrev pub block_entries : Name → Block → List Entry
block_entries front b = map (block_entry front b) (range_with_len 0 (b.more + 1))

-- the names of a span
abbrev pub span_entries : List Name → Span → List Entry
span_entries fronts s = block_entries (get_or fronts s.front []) s.block

-- the names of spans, in order
abbrev pub all_entries : List Name → List Span → List Entry
all_entries fronts spans = flat_map (span_entries fronts) spans

-- the numbers of a block have no more digits than its width, which is that of the tails behind a front, and its values fit 32 bits
abbrev pub IsBlockOf : Name → Block → Type 0
IsBlockOf front b = IsFront front b.width × (b.first + b.more < 10 ^ b.width) × (b.value + b.more < 2 ^ 32)

-- the front of a span is there, and its names are formed
abbrev pub IsFormed : List Name → Span → Type 0
IsFormed fronts s = (s.front < length fronts) × IsBlockOf (get_or fronts s.front []) s.block

-- so are those of all spans, and their names are counted
pub record IsKept (fronts : List Name) (spans : List Span) (len : ℕ) : Type 0 where
  pub counted : len ≡ length (all_entries fronts spans)
  pub few : len ≤ NAME_LIMIT
  pub formed : All (IsFormed fronts) spans

-- the names of a range from this name on, with the wide values from this one on
abbrev pub valued_after : Name → ℕ → ℕ → Entry
valued_after first value k = (name_after first k, shortest (value + k))

-- so many of them and one more
abbrev pub valued_names : Name → ℕ → ℕ → List Entry
valued_names first value more = map (valued_after first value) (range_with_len 0 (more + 1))

-- whether each of these entries has a new name, and the entries with them where that is so
abbrev pub IsAdded : List Entry → List Entry → List Entry → Bool → Type 0
IsAdded old es new true = added old es ≡ Some new
IsAdded old es new false = added old es ≡ None
