use Rattle.std.proofs.Common.{ℕ, ◌+◌, List, ◌∙◌, sym, ap, arith}
use Rattle.msg_catalog.specs.Spots.{spots}
use Rattle.msg_catalog.proofs.Lining.{spots_joined}
use Rattle.msg_catalog.proofs.cursor.Cursor.past_joins.Goals as goal

pub loop-after-preserved : goal.loop-after-preserved
loop-after-preserved c =
    let line = c.loop-after.line in
    record {
      same = ap (λ (bs : List ℕ). spots (line + 1) 1 bs) c.in-Some.ensures.some.1 ∙ sym (spots_joined line c.loop-after.column c.loop-after.rest.now c.in-Some.ensures.some.0) ∙ c.loop-after.invariant.same;
      shorter = omega (arith, c.in-Some.ensures.shorter, c.loop-after.invariant.shorter);
      lines = omega (arith, c.in-Some.ensures.shorter, c.loop-after.invariant.lines);
      columns = omega (arith, c.in-Some.ensures.shorter, c.loop-after.invariant.lines);
    }
