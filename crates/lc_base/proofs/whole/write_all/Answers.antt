use Rattle.std.proofs.Common.{◌∙◌, arith}
use Rattle.std.proofs.lemmas.List.{take_rest}
use Rattle.lc_base.proofs.Streams.{Appends-front}
use Rattle.lc_base.proofs.whole.write_all.Goals as goal

pub loop-done-preserved : goal.loop-done-preserved
loop-done-preserved g c =
    let moved = rw take_rest at c.in_ok-done.ensures.moved in
    record {
      within = omega (arith, c.in_ok-done.ensures.within);
      front = Appends-front _ _ _ _ _ _ c.loop-done.invariant.front moved;
      sound = c.in_ok-done.ensures.sound ∙ c.loop-done.invariant.sound;
    }
