use Rattle.std.proofs.Common.{sym}
use Rattle.src_lines.proofs.Celling.{with_name, no_name}
use Rattle.src_lines.proofs.cells.Atoms.as_bytes.Goals as goal

pub returns-then-has_name : goal.returns-then-has_name
returns-then-has_name c =
    let named = rw (c.has_name.ensures, c.deref.ensures.value) at c.if-has_name.true in
    rw (← c.self.view_is) (sym (with_name _ _ _ c.self.invariant.same named))

pub returns : goal.returns
returns c =
    let unnamed = rw (c.has_name.ensures, c.deref.ensures.value) at c.if-has_name.false in
    rw (← c.self.view_is, c.deref-2.ensures.value) (sym (no_name _ _ c.self.invariant.same c.self.invariant.ended unnamed))
