use Rattle.std.proofs.Common.{sym, ◌∙◌}
use Rattle.charmap_reader.proofs.EncodingLemmas.{encoding-long, long_up_to}
use Rattle.charmap_reader.proofs.encoding.encoding_in.Goals as goal

pub returns-in-None : goal.returns-in-None
returns-in-None c = encoding-long c.args.atoms.now (long_up_to 4 c.args.atoms.now (sym c.in-None.is ∙ c.in_ok-atoms.ensures))
