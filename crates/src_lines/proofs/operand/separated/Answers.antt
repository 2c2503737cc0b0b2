use Rattle.std.proofs.Common.{sym, ◌∙◌, refl}
use Rattle.std.proofs.lemmas.Result.{err_from_is_err_and}
use Rattle.src_lines.proofs.Operands.{separated_is, separated_then}
use Rattle.lc_base.proofs.ReadingLemmas.{fails_first}
use Rattle.src_lines.proofs.operand.separated.Goals as goal

pub returns-in_err-operand-clause-is : goal.returns-in_err-operand-clause-is
returns-in_err-operand-clause-is c =
    let p = err_from_is_err_and c.from_residual.result c.from_residual.ensures.1 in
    rw (p.1, p.2) (fails_first c.in_err-operand.field-0.0 _ _ _ (separated_is _) c.in_err-operand.ensures.is)

pub returns-in_default-clause-is : goal.returns-in_default-clause-is
returns-in_default-clause-is c =
    let next = rw c.in_default.is at c.in_ok-read.ensures in
    separated_then _ _ _ c.in_ok-operand.operand c.in_ok-operand.ensures.is (sym next ∙ c.skip_blanks-end.ensures.is)

pub returns-then-not-has_bare-clause-is : goal.returns-then-not-has_bare-clause-is
returns-then-not-has_bare-clause-is c =
    let next = rw c.in-Some.is at c.in_ok-read.ensures in
    separated_then _ _ _ c.in_ok-operand.operand c.in_ok-operand.ensures.is (sym next.0 ∙ c.skip_blanks-end.ensures.is) ∙ rw (← c.has_bare.ensures, c.if-not-has_bare.true, c.place_at.ensures) refl

pub returns-clause-is : goal.returns-clause-is
returns-clause-is c =
    let next = rw c.in-Some.is at c.in_ok-read.ensures in
    separated_then _ _ _ c.in_ok-operand.operand c.in_ok-operand.ensures.is (sym next.0 ∙ c.skip_blanks-end.ensures.is) ∙ rw (← c.has_bare.ensures, c.if-not-has_bare.false) refl
