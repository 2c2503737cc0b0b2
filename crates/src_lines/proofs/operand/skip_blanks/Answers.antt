use Rattle.src_lines.specs.Rows.{line_of}
use Rattle.src_lines.proofs.Opening.{skip_is}
use Rattle.src_lines.proofs.operand.skip_blanks.Goals as goal

pub returns-clause-is : goal.returns-clause-is
returns-clause-is c = rw (c.blanks.ensures.is, c.split_at.ensures.back) (skip_is (line_of c.args.row.now) c.args.at)
