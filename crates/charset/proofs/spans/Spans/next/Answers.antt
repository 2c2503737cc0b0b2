use Rattle.std.proofs.Common.{rules, inl, inr, ⊎_elim, ◌<◌, length}
use Rattle.charset.specs.declared.spans.Span.{Span}
use Rattle.charset.proofs.SpanLemmas.{next_none, next_other, next_some}
use Rattle.charset.proofs.spans.Spans.next.Goals as goal

-- a span, where any one serves
any_span : Span
any_span = record { front = 0; block = record { width = 0; first = 0; more = 0; value = 0 } }

pub returns-in_err-end : goal.returns-in_err-end
returns-in_err-end c = rw (c.from_residual.ensures, ← c.self.view_is) (next_none c.self.inside.spans.items c.self.inside.ends c.args.spot c.self.invariant c.in_err-end.ensures)

pub returns-then-end-spot : goal.returns-then-end-spot
returns-then-end-spot c = rw (← c.self.view_is) (next_other c.self.inside.spans.items c.self.inside.ends c.args.spot (c.in_ok-end.end, c.in_ok-end.at) c.self.invariant c.in_ok-end.ensures (⊎_elim (λ front. inl front) (λ width. inr width.1) c.then-end-spot.either))

pub index-requires : goal.index-requires
index-requires c =
    let within : c.in_ok-end.at < length c.self.inside.spans.items = (c.self.invariant.there c.in_ok-end.end c.in_ok-end.at any_span c.in_ok-end.ensures.0).0 in
    search rules

pub returns : goal.returns
returns c = rw (← c.self.view_is) (next_some c.self.inside.spans.items c.self.inside.ends c.args.spot (c.in_ok-end.end, c.in_ok-end.at) c.index.result.now c.self.invariant c.in_ok-end.ensures c.if-end-spot.false c.if-end-spot-2.false c.index.ensures)
