-- The lines of a store stay as they are while bytes and joins come and go behind them.
use Rattle.std.proofs.Common.{◌≡◌, ℕ, ◌≤◌, List, ◌++◌, length, take, map, All, refl, arith}
use Rattle.src_lines.specs.declared.store.Join.{Join}
use Rattle.src_lines.specs.declared.store.Span.{Span}
use Rattle.src_lines.specs.Stored.{line_in, IsWithin}
use Rattle.lc_base.proofs.Slices.{range-append, range-take, map_same}

-- the lines stay where bytes are added
pub kept-bytes : (bytes more : List ℕ) (joins : List Join) (spans : List Span) (start first : ℕ) → start ≤ length bytes → All (IsWithin start first) spans → map (line_in (bytes ++ more) joins) spans ≡ map (line_in bytes joins) spans
kept-bytes bytes more joins spans start first before within =
    map_same (line_in (bytes ++ more) joins) (line_in bytes joins) (IsWithin start first) (λ s w. rw (range-append bytes more s.start s.«end» w.bytes_in_order (omega (arith, w.bytes_end))) refl) spans within

-- the lines stay where joins are added
pub kept-joins : (bytes : List ℕ) (joins more : List Join) (spans : List Span) (start first : ℕ) → first ≤ length joins → All (IsWithin start first) spans → map (line_in bytes (joins ++ more)) spans ≡ map (line_in bytes joins) spans
kept-joins bytes joins more spans start first before within =
    map_same (line_in bytes (joins ++ more)) (line_in bytes joins) (IsWithin start first) (λ s w. rw (range-append joins more s.first s.last w.joins_in_order (omega (arith, w.joins_end))) refl) spans within

-- the lines stay where the draft goes
pub kept-take : (bytes : List ℕ) (joins : List Join) (spans : List Span) (start first : ℕ) → All (IsWithin start first) spans → map (line_in (take start bytes) (take first joins)) spans ≡ map (line_in bytes joins) spans
kept-take bytes joins spans start first within =
    map_same (line_in (take start bytes) (take first joins)) (line_in bytes joins) (IsWithin start first) (λ s w. rw (range-take bytes start s.start s.«end» w.bytes_in_order w.bytes_end, range-take joins first s.first s.last w.joins_in_order w.joins_end) refl) spans within
