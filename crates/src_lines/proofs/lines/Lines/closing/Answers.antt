use Rattle.std.proofs.Common.{sym, ◌∙◌, arith}
use Rattle.src_lines.proofs.Positions.{position_found_from, position_none_from}
use Rattle.src_lines.specs.Places.{closes_line}
use Rattle.src_lines.proofs.lines.Lines.closing.Goals as goal

pub returns-then-closes-clause-is : goal.returns-then-closes-clause-is
returns-then-closes-clause-is c =
    sym (position_found_from (closes_line c.args.name.now) c.args.self.now c.args.start c.loop-i.i _ (omega arith) (omega arith) c.loop-i.invariant (rw c.bytes.ensures at (sym c.closes.ensures ∙ c.if-closes.true)))

pub returns-clause-is : goal.returns-clause-is
returns-clause-is c =
    sym (position_none_from (closes_line c.args.name.now) c.args.self.now c.args.start _ (λ k ge lt. c.loop-i.invariant k ge (omega arith)))
