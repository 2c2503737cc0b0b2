use Rattle.std.proofs.lemmas.Bool.Decides.{Decides-eqb}
use Rattle.std.proofs.lemmas.Slice.Eq.{strip_prefix_is}
use Rattle.output_reader.proofs.Cuts.{strip_read, strip_back}
use Rattle.output_reader.proofs.pieces.behind.Goals as goal

pub returns-clause-read : goal.returns-clause-read
returns-clause-read c = strip_read c.args.bytes.now c.args.front.now c.strip_prefix.result (strip_prefix_is Decides-eqb c.args.bytes.now c.args.front.now c.strip_prefix.result c.strip_prefix.ensures.cases)

pub returns-clause-back : goal.returns-clause-back
returns-clause-back c = strip_back c.args.bytes.now c.args.front.now c.strip_prefix.result (strip_prefix_is Decides-eqb c.args.bytes.now c.args.front.now c.strip_prefix.result c.strip_prefix.ensures.cases)
