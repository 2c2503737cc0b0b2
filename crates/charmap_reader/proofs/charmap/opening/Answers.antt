use Rattle.std.proofs.Common.{sym, ◌∙◌, arith}
use Rattle.charmap_reader.specs.Charmap.{opens_body}
use Rattle.src_lines.proofs.Positions.{position_found, position_none}
use Rattle.charmap_reader.proofs.charmap.opening.Goals as goal

pub returns-then-opens_body-clause-is : goal.returns-then-opens_body-clause-is
returns-then-opens_body-clause-is c =
    sym (position_found opens_body c.args.lines.now c.loop-i.i _ (omega arith) c.loop-i.invariant (sym c.opens_body.ensures ∙ c.if-opens_body.true))

pub returns-clause-is : goal.returns-clause-is
returns-clause-is c =
    sym (position_none opens_body c.args.lines.now _ (λ k h. c.loop-i.invariant k (omega arith)))
