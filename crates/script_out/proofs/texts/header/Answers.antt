use Rattle.script_out.specs.Texts.{header}
use Rattle.script_out.proofs.texts.header.Goals as goal

pub returns : goal.returns
unfolding header
returns c = c.to_le_bytes.ensures
