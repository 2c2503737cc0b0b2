use Rattle.src_lines.proofs.Storing.{kept-take}
use Rattle.src_lines.proofs.store.Store.discard.Goals as goal

pub returns-clause-kept : goal.returns-clause-kept
returns-clause-kept c =
    let s = c.self.inside in
    rw (c.truncate.ensures.items, c.truncate-2.ensures.items, ← c.self.view_is) (kept-take s.bytes.items s.joins.items s.spans.items s.start s.first c.self.invariant.spans_before)
