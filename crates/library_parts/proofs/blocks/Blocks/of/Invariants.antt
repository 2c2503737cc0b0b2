use Rattle.std.proofs.Common.{◌≡◌}
use Rattle.std.specs.Vec.Iter.{into_iter_items}
use Rattle.library_parts.specs.Places.{AreSized, blocks_of_parts}
use Rattle.library_parts.proofs.BlockLemmas.{blocks_from}
use Rattle.library_parts.proofs.blocks.Blocks.of.Given as goal

-- the blocks so far, with those to come
abbrev pub invariant-loop-part : goal.invariant-loop-part
invariant-loop-part l = record {
  whole : blocks_from l.blocks l.before (into_iter_items l.part-iterator) ≡ blocks_of_parts l.fn.parts.items;
  sized : AreSized l.before (into_iter_items l.part-iterator);
}
