use Rattle.std.proofs.Common.{◌≢◌, ◌<◌, ◌∙◌, length, arith, get_or-set_other, get_or-set_same, below_more}
use Rattle.std.proofs.Math.ListN.{length-set}
use Rattle.class_ranges.proofs.block.block_from.Goals as goal

pub loop-k-preserved : goal.loop-k-preserved
loop-k-preserved c = record {
  images = below_more _ _
      (λ k h. let ne : k ≢ c.loop-k.k = omega arith in rw get_or-set_other (c.loop-k.invariant.images k h))
      (let lt : c.loop-k.k < length c.loop-k.block = omega (arith, c.loop-k.invariant.whole, c.loop-k-test.true) in rw get_or-set_same c.image.ensures);
  whole = length-set c.loop-k.block c.loop-k.k c.image.result ∙ c.loop-k.invariant.whole;
}
