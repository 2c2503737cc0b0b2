use Rattle.std.proofs.Common.{[], ◌∷◌, ◌++◌, length-append, arith}
use Rattle.class_ranges.specs.Maps.{IsPagedMap}
use Rattle.class_ranges.proofs.Blocks.{more_blocks}
use Rattle.class_ranges.proofs.paged_map.PagedMap.of.Goals as goal

pub loop-block-preserved : goal.loop-block-preserved
loop-block-preserved c =
    let right : IsPagedMap (c.loop-block.numbers.items ++ c.in_ok-block_number.field-0 ∷ []) c.block_number.new.blocks.items c.args.entries.entries =
    more_blocks c.args.entries.entries c.loop-block.numbers.items c.loop-block.blocks.items c.block_number.new.blocks.items c.in_ok-block_number.field-0
    c.loop-block.invariant.right c.in_ok-block_number.ensures.kept (λ k within. rw (c.loop-block.invariant.count) (c.in_ok-block_number.ensures.gives k within)) in
    record {
      right = rw (c.in_ok-push.ensures.items) right;
      count = rw (c.in_ok-push.ensures.items) (omega (arith, length-append c.loop-block.numbers.items (c.in_ok-block_number.field-0 ∷ []), c.loop-block.invariant.count));
      few = omega (arith, c.in_ok-block_number.ensures.grown, c.loop-block.invariant.few);
    }
