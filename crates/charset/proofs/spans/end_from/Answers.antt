use Rattle.charset.proofs.SpanLemmas.{no_end, first_end}
use Rattle.charset.proofs.spans.end_from.Goals as goal

pub returns-in_err-end : goal.returns-in_err-end
returns-in_err-end c = rw c.from_residual.ensures (no_end c.args.ends.now c.args.spot c.range.result c.in_err-end.ensures.steps.0 (c.range.ensures.in_range tt))

pub returns : goal.returns
returns c = first_end c.args.ends.now c.args.spot c.range.result _ (c.in_ok-end.end.now, c.in_ok-end.at.now) c.in_ok-end.ensures.steps (c.range.ensures.in_range tt)
