use Rattle.std.proofs.Common.{rules, ◌≡◌, ◌∙◌, [], sym}
use Rattle.std.proofs.lemmas.Result.{err_from_is_err_and}
use Rattle.lc_base.proofs.ReadingLemmas.{fails_first}
use Rattle.msg_catalog.specs.Cursors.{to_come}
use Rattle.msg_catalog.proofs.Lining.{read_more, behind_less}
use Rattle.msg_catalog.proofs.reader.read_lines.Goals as goal

pub returns-in_err-line : goal.returns-in_err-line
returns-in_err-line c =
    let p = err_from_is_err_and c.from_residual.result c.from_residual.ensures.1 in
    let some : to_come c.loop-cursor.cursor ≡ [] → ⊥ = search rules in
    rw (p.1, p.2) (fails_first c.in_err-line.field-0.0 _ _ _ (sym c.loop-cursor.invariant ∙ read_more c.loop-cursor.draft _ some) c.in_err-line.ensures)

pub loop-cursor-smaller : goal.loop-cursor-smaller
loop-cursor-smaller c =
    let some : to_come c.loop-cursor.cursor ≡ [] → ⊥ = search rules in
    rw c.next_line-cursor.ensures (behind_less (to_come c.loop-cursor.cursor) some)

pub loop-cursor-preserved : goal.loop-cursor-preserved
loop-cursor-preserved c =
    let some : to_come c.loop-cursor.cursor ≡ [] → ⊥ = search rules in
    rw c.next_line-cursor.ensures (sym (rw c.in_ok-line.ensures at (read_more c.loop-cursor.draft _ some)) ∙ c.loop-cursor.invariant)
