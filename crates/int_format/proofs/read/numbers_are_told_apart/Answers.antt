use Rattle.int_format.proofs.ReadLemmas.{told_apart}
use Rattle.int_format.proofs.read.numbers_are_told_apart.Goals as goal

pub returns : goal.returns
returns c = told_apart
