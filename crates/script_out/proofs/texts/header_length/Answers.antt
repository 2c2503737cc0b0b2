use Rattle.script_out.specs.Texts.{header_length}
use Rattle.script_out.proofs.texts.header_length.Goals as goal

pub returns : goal.returns
unfolding header_length
returns c = c.from_le_bytes.ensures
