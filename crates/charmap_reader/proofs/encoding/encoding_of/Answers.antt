use Rattle.charmap_reader.proofs.EncodingLemmas.{encoding-long}
use Rattle.charmap_reader.proofs.encoding.encoding_of.Goals as goal

pub returns-in_default-2 : goal.returns-in_default-2
returns-in_default-2 c = encoding-long c.args.atoms.now c.in_default.len_at_least
