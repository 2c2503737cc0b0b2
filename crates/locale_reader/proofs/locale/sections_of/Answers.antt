use Rattle.std.proofs.Common.{arith}
use Rattle.locale_reader.proofs.Sections.{sections_step}
use Rattle.locale_reader.proofs.locale.sections_of.Goals as goal

pub loop-i-preserved : goal.loop-i-preserved
loop-i-preserved c = record {
  within = c.in_ok-more.ensures.within.1;
  so_far = sections_step c.args.charset.now _ _ c.args.lines.now c.loop-i.i _ _ _ (omega (arith, c.loop-i-test.true, c.len.ensures)) c.in_ok-more.ensures.within.0 c.in_ok-more.ensures.is c.loop-i.invariant.so_far;
}
