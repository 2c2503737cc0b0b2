use Rattle.std.proofs.Common.{◌≡◌, Some, length, arith, ap, sym, ◌∙◌}
use Rattle.digit_groups.specs.Groups.{grouped_width}
use Rattle.int_format.proofs.ReadLemmas.{same_width}
use Rattle.int_format.proofs.read.count_in.Goals as goal

pub returns-then-grouped_width-len-clause-all : goal.returns-then-grouped_width-len-clause-all
returns-then-grouped_width-len-clause-all c = λ k one most wide.
    let here : grouped_width c.loop-k.k c.args.sizes.now (length c.args.sep.now) ≡ c.args.len = omega (arith, c.grouped_width.ensures.is) in
    ap (λ j. Some j) (same_width c.loop-k.k k c.args.sizes.now (length c.args.sep.now) (here ∙ sym wide))
