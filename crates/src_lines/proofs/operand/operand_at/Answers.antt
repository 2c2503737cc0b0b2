use Rattle.std.proofs.Common.{sym, ◌∙◌, refl}
use Rattle.std.proofs.lemmas.Result.{err_from_is_err_and}
use Rattle.src_lines.proofs.Opening.{operand_quoted, operand_run}
use Rattle.lc_base.proofs.ReadingLemmas.{fails_first}
use Rattle.src_lines.proofs.operand.operand_at.Goals as goal

pub returns-in_err-pieces-clause-is : goal.returns-in_err-pieces-clause-is
returns-in_err-pieces-clause-is c =
    let p = err_from_is_err_and c.from_residual.result c.from_residual.ensures.1 in
    let next = c.opens.ensures.next c.if-opens.true in
    rw (p.1, p.2) (fails_first c.in_err-pieces.field-0.0 _ _ _ (operand_quoted _ _ _ next refl) c.in_err-pieces.ensures.is)

pub returns-then-opens-clause-is : goal.returns-then-opens-clause-is
returns-then-opens-clause-is c =
    let next = c.opens.ensures.next c.if-opens.true in
    operand_quoted _ _ _ next refl ∙ rw c.in_ok-pieces.ensures.is refl

pub returns-in_err-atoms-clause-is : goal.returns-in_err-atoms-clause-is
returns-in_err-atoms-clause-is c =
    let p = err_from_is_err_and c.from_residual-in_err-atoms.result c.from_residual-in_err-atoms.ensures.1 in
    rw (p.1, p.2) (fails_first c.in_err-atoms.field-0.0 _ _ _ (operand_run _ (sym c.opens.ensures.is ∙ c.if-opens.false)) c.in_err-atoms.ensures.is)

pub returns-clause-is : goal.returns-clause-is
returns-clause-is c =
    operand_run _ (sym c.opens.ensures.is ∙ c.if-opens.false) ∙ rw (c.in_ok-atoms.ensures.is, c.in_ok-shape_of.ensures) refl
