use Rattle.charmap_reader.proofs.DistanceLemmas.{distance_more}
use Rattle.charmap_reader.proofs.distance.distance.Goals as goal

pub loop-i-preserved : goal.loop-i-preserved
loop-i-preserved c =
    distance_more c.args.first.now c.args.last.now c.max-longest.result c.loop-i.i c.loop-i.so_far c.step-so_far.result c.digit_at.result c.digit_at-in-loop-i.result c.requires.first c.requires.last
    c.loop-i-test.true c.loop-i.invariant c.digit_at.ensures.is c.digit_at-in-loop-i.ensures.is c.step-so_far.ensures
