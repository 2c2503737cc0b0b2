use Rattle.std.proofs.Common.{◌≡◌, ℕ, ◌+◌, ◌<◌, length}
use Rattle.std.specs.Prelude.{slice_index}
use Rattle.class_ranges.specs.Maps.{image}
use Rattle.class_ranges.proofs.block.block_from.Given as goal

abbrev pub invariant-loop-k : goal.invariant-loop-k
invariant-loop-k l = record {
  images : (j : ℕ) → j < l.k → slice_index l.block j ≡ image l.entries.entries (l.first + j);
  whole : length l.block ≡ 64;
}
