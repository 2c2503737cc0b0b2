use Rattle.std.proofs.Common.{◌+◌, arith}
use Rattle.class_ranges.proofs.Blocks.{kept_blocks, added_block}
use Rattle.class_ranges.proofs.block.block_number.Goals as goal

pub returns-clause-gives : goal.returns-clause-gives
returns-clause-gives c = λ k within.
    rw (c.in_ok-push.ensures.items) (added_block c.args.blocks.now.items c.block_from.result (c.len.result + 1) k _ _ (omega arith) (c.block_from.ensures k within))

pub returns-clause-kept : goal.returns-clause-kept
returns-clause-kept c = λ n k w v is. rw (c.in_ok-push.ensures.items) (kept_blocks c.args.blocks.now.items c.block_from.result n k w v is)
