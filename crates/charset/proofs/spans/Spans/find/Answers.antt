use Rattle.std.proofs.Common.{◌≤◌, sym, ◌∙◌, arith}
use Rattle.charset.proofs.SpanLemmas.{found_none, found_next, free_before}
use Rattle.charset.proofs.spans.Spans.find.Goals as goal

pub returns-in_err-span : goal.returns-in_err-span
returns-in_err-span c = c.from_residual.ensures ∙ sym (found_none c.args.self.now c.args.spot c.in_err-span.ensures)

pub returns-then-span-spot : goal.returns-then-span-spot
returns-then-span-spot c = sym (found_next c.args.self.now c.args.spot c.in_ok-span.span c.in_ok-span.ensures c.if-span-spot.true)

pub returns-else-span-spot : goal.returns-else-span-spot
returns-else-span-spot c =
    let own : c.args.spot.2 ≤ c.args.spot.2 = omega arith in
    sym (free_before c.args.self.now c.args.spot c.in_ok-span.span c.args.spot.2 c.in_ok-span.ensures own c.if-span-spot.false)
