use Rattle.src_lines.proofs.Spellings.{read_back}
use Rattle.src_lines.proofs.spelling.have_spellings.Goals as goal

pub returns : goal.returns
returns c = read_back
