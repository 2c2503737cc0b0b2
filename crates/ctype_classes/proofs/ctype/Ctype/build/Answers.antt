use Rattle.std.proofs.lemmas.Result.{err_from_is_err_and}
use Rattle.ctype_classes.proofs.MemberLemmas.{values_answer, values_upper, values_lower}
use Rattle.ctype_classes.proofs.ctype.Ctype.build.Goals as goal

pub returns-clause-members : goal.returns-clause-members
returns-clause-members c = λ class w.
    values_answer c.args.entries.now c.args.section c.args.charset.now c.in_ok-ctype.ctype (rw (c.in_ok-list.ensures, c.as_slice.ensures) at c.in_ok-ctype.ensures.is) class w

pub returns-clause-upper : goal.returns-clause-upper
returns-clause-upper c = λ w.
    values_upper c.args.entries.now c.args.section c.args.charset.now c.in_ok-ctype.ctype (rw (c.in_ok-list.ensures, c.as_slice.ensures) at c.in_ok-ctype.ensures.is) w

pub returns-clause-lower : goal.returns-clause-lower
returns-clause-lower c = λ w.
    values_lower c.args.entries.now c.args.section c.args.charset.now c.in_ok-ctype.ctype (rw (c.in_ok-list.ensures, c.as_slice.ensures) at c.in_ok-ctype.ensures.is) w

pub returns-in_err-ctype-clause-excluded : goal.returns-in_err-ctype-clause-excluded
returns-in_err-ctype-clause-excluded c =
    let p = err_from_is_err_and c.from_residual-in_err-ctype.result c.from_residual-in_err-ctype.ensures.1 in
    rw (p.1, p.2) (rw (c.in_ok-list.ensures, c.as_slice.ensures) at c.in_err-ctype.ensures.excluded)
