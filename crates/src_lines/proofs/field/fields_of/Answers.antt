use Rattle.std.proofs.lemmas.Result.{err_from_is_err_and}
use Rattle.src_lines.proofs.Fielding.{first_fails, second_fails, fields_are}
use Rattle.src_lines.proofs.field.fields_of.Goals as goal

pub returns-in_err-first : goal.returns-in_err-first
returns-in_err-first c =
    let p = err_from_is_err_and c.from_residual.result c.from_residual.ensures.1 in
    rw (p.1, p.2) (first_fails c.in_err-first.field-0.0 _ c.in_err-first.ensures.is)

pub returns-in_err-second : goal.returns-in_err-second
returns-in_err-second c =
    let p = err_from_is_err_and c.from_residual-in_err-second.result c.from_residual-in_err-second.ensures.1 in
    rw (p.1, p.2) (second_fails c.in_err-second.field-0.0 _ _ _ c.in_ok-first.ensures.is c.in_err-second.ensures.is)

pub returns : goal.returns
returns c = fields_are _ _ _ _ _ c.in_ok-first.ensures.is c.in_ok-second.ensures.is
