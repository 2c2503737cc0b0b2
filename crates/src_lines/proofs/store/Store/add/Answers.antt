use Rattle.std.proofs.Common.{◌≡◌, ◌+◌, length, refl, arith, length-append}
use Rattle.std.proofs.lemmas.List.{drop-append-le}
use Rattle.src_lines.proofs.Storing.{kept-bytes}
use Rattle.src_lines.proofs.store.Store.add.Goals as goal

pub returns : goal.returns
returns c =
    let s = c.self.inside in
    let kept = kept-bytes s.bytes.items c.args.part.now s.joins.items s.spans.items s.start s.first c.self.invariant.bytes_before c.self.invariant.spans_before in
    let draft = drop-append-le s.start s.bytes.items c.args.part.now c.self.invariant.bytes_before in
    let room : length s.bytes.items + length c.args.part.now + length s.joins.items ≡ length s.bytes.items + length s.joins.items + length c.args.part.now = omega arith in
    record { ok = rw (c.in_ok-extend_from_slice.ensures.items, ← c.self.view_is, kept, draft, length-append s.bytes.items c.args.part.now, room) refl }
