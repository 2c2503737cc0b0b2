use Rattle.int_format.proofs.ReadLemmas.{not_narrower, tells_separator}
use Rattle.int_format.proofs.read.separates.Goals as goal

pub overflow_sub-result : goal.overflow_sub-result
overflow_sub-result c = not_narrower c.args.sizes.now c.args.k c.width_of.result c.width_of-2.result c.width_of.ensures.is c.width_of-2.ensures.is

pub returns : goal.returns
returns c = tells_separator c.args.sizes.now c.args.k c.width_of.result c.width_of-2.result c.width_of.ensures.is c.width_of-2.ensures.is
