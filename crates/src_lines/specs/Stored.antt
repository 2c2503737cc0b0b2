-- What a store of logical lines holds.
use Rattle.std.specs.Prelude.{ℕ, ◌+◌, ◌<◌, ◌≤◌, ◌^◌, List, length, map, drop, slice_range, All}
use Rattle.src_lines.specs.declared.store.Join.{Join}
use Rattle.src_lines.specs.declared.store.Span.{Span}
use Rattle.src_lines.specs.declared.store.Store.TheInside.{Inside}
use Rattle.src_lines.specs.Held.{Held}
use Rattle.src_lines.specs.Places.{Logical}

-- the line that a span marks
abbrev pub line_in : List ℕ → List Join → Span → Logical
line_in bytes joins s =
    record { signs = s.signs; line = s.line; bytes = slice_range bytes s.start s.«end»; joins = slice_range joins s.first s.last }

-- a span within the bytes and the joins before these
pub record IsWithin (start first : ℕ) (s : Span) : Type 0 where
  pub bytes_in_order : s.start ≤ s.«end»
  pub bytes_end : s.«end» ≤ start
  pub joins_in_order : s.first ≤ s.last
  pub joins_end : s.last ≤ first

-- what the store's fields stand for
abbrev pub held : Inside → Held
held s = record {
  kept = map (line_in s.bytes.items s.joins.items) s.spans.items;
  draft = record { signs = s.signs; line = s.line; bytes = drop s.start s.bytes.items; joins = drop s.first s.joins.items };
  room = length s.bytes.items + length s.joins.items;
}

-- spans lie before the draft
pub record IsStored (s : Inside) : Type 0 where
  pub bytes_before : s.start ≤ length s.bytes.items
  pub joins_before : s.first ≤ length s.joins.items
  pub spans_before : All (IsWithin s.start s.first) s.spans.items
  pub small : length s.bytes.items + length s.joins.items < 2 ^ 31
