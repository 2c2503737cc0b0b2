use Rattle.std.proofs.Common.{◌≡◌, ◌+◌, ◌-◌, length, drop, refl, arith, length-append, length-drop, ◌∷◌, []}
use Rattle.std.proofs.lemmas.List.{drop-append-le}
use Rattle.src_lines.specs.declared.store.Join.{Join}
use Rattle.src_lines.proofs.Storing.{kept-joins}
use Rattle.src_lines.proofs.store.Store.join.Goals as goal

pub returns : goal.returns
returns c =
    let s = c.self.inside in
    let at : c.len.result - s.start ≡ length (drop s.start s.bytes.items) = omega (arith, c.len.ensures, s.bytes.ok.0, length-drop s.start s.bytes.items) in
    let added : Join = record { at = length (drop s.start s.bytes.items); line = c.args.line } in
    let kept = kept-joins s.bytes.items s.joins.items (added ∷ []) s.spans.items s.start s.first c.self.invariant.joins_before c.self.invariant.spans_before in
    let draft = drop-append-le s.first s.joins.items (added ∷ []) c.self.invariant.joins_before in
    let room : length s.bytes.items + (length s.joins.items + 1) ≡ length s.bytes.items + length s.joins.items + 1 = omega arith in
    record { ok = rw (c.in_ok-push.ensures.items, at, ← c.self.view_is, kept, draft, length-append s.joins.items (added ∷ []), room) refl }
