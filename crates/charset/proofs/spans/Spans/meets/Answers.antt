use Rattle.std.proofs.Common.{leb, ap}
use Rattle.charset.proofs.SpanLemmas.{met_or_clear, clear_after}
use Rattle.charset.proofs.spans.Spans.meets.Goals as goal

pub returns-in-Some : goal.returns-in-Some
returns-in-Some c = met_or_clear c.args.self.now c.args.span.now c.in-Some.next _ c.in-Some.ensures (ap (leb c.in-Some.next.block.first) c.last_of.ensures)

pub returns-in-None : goal.returns-in-None
returns-in-None c = clear_after c.args.self.now c.args.span.now c.in-None.ensures
