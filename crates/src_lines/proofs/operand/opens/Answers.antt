use Rattle.std.proofs.Common.{arith}
use Rattle.src_lines.specs.Rows.{line_of}
use Rattle.src_lines.proofs.Opening.{opens_at_end, opens_at_other, opens_at_quote, next_at_quote}
use Rattle.src_lines.proofs.operand.opens.Goals as goal

pub returns-then-at-row-clause-is : goal.returns-then-at-row-clause-is
returns-then-at-row-clause-is c = opens_at_end (line_of c.args.row.now) c.args.at (omega arith)

pub returns-then-row-at-ne34-clause-is : goal.returns-then-row-at-ne34-clause-is
returns-then-row-at-ne34-clause-is c = opens_at_other (line_of c.args.row.now) c.args.at (omega arith) c.if-row-at-ne34.true

pub returns-clause-is : goal.returns-clause-is
returns-clause-is c = opens_at_quote (line_of c.args.row.now) c.args.at (omega arith) c.if-row-at-ne34.false

pub returns-clause-next : goal.returns-clause-next
returns-clause-next c = λ h. next_at_quote (line_of c.args.row.now) c.args.at (omega arith) c.if-row-at-ne34.false h
