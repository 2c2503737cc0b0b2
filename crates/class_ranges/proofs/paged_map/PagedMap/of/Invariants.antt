use Rattle.std.proofs.Common.{◌≡◌, ◌≤◌, length}
use Rattle.class_ranges.specs.Maps.{IsPagedMap}
use Rattle.class_ranges.proofs.paged_map.PagedMap.of.Given as goal

abbrev pub invariant-loop-block : goal.invariant-loop-block
invariant-loop-block l = record {
  right : IsPagedMap l.numbers.items l.blocks.items l.entries.entries;
  count : length l.numbers.items ≡ l.block;
  few : length l.blocks.items ≤ l.block;
}
