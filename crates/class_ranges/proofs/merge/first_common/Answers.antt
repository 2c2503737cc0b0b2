use Rattle.std.proofs.Common.{arith, sym, ◌∙◌}
use Rattle.class_ranges.proofs.CommonValues.{pass_range_at, pass_other_at, ended_others}
use Rattle.class_ranges.proofs.merge.first_common.Goals as goal

pub loop-i-preserved-then-range-other : goal.loop-i-preserved-then-range-other
loop-i-preserved-then-range-other c =
    sym (pass_range_at c.args.ranges.now c.args.others.now c.loop-i.i c.loop-i.j c.requires.ranges c.requires.others c.loop-i-test.true c.if-j-others.true (omega arith) (omega arith)) ∙ c.loop-i.invariant

pub loop-i-preserved : goal.loop-i-preserved
loop-i-preserved c =
    sym (pass_other_at c.args.ranges.now c.args.others.now c.loop-i.i c.loop-i.j c.requires.ranges c.requires.others c.loop-i-test.true c.if-j-others.true (omega arith) (omega arith)) ∙ c.loop-i.invariant

pub returns-else-j-others : goal.returns-else-j-others
returns-else-j-others c = sym (ended_others _ c.args.others.now c.loop-i.j (omega arith)) ∙ c.loop-i.invariant
