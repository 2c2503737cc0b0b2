use Rattle.std.proofs.Common.{arith}
use Rattle.class_ranges.proofs.Blocks.{images_give}
use Rattle.class_ranges.proofs.block.block_gives.Goals as goal

pub returns : goal.returns
returns c =
    images_give c.args.blocks.now c.in_ok-block.block.now c.args.number c.args.k c.args.w (omega arith) c.in_ok-block.ensures.lookup.3.0 c.in_ok-block.ensures.lookup.1
