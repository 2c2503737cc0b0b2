use Rattle.std.proofs.lemmas.Result.{err_from_is_err_and}
use Rattle.ctype_classes.proofs.ExclusionLemmas.{lines_name, names_in, all_apart_in}
use Rattle.ctype_classes.proofs.ctype.Ctype.of_list.Goals as goal

pub returns-in_err-classes-clause-excluded : goal.returns-in_err-classes-clause-excluded
returns-in_err-classes-clause-excluded c =
    let p = err_from_is_err_and c.from_residual.result c.from_residual.ensures.1 in
    rw (p.1, p.2) (lines_name c.args.charset.now c.args.list.now c.args.section c.in_err-classes.field-0.0 c.in_err-classes.ensures)

pub returns-in_err-check_exclusions-clause-excluded : goal.returns-in_err-check_exclusions-clause-excluded
returns-in_err-check_exclusions-clause-excluded c =
    let p = err_from_is_err_and c.from_residual-in_err-check_exclusions.result c.from_residual-in_err-check_exclusions.ensures.1 in
    rw (p.1, p.2) (names_in c.args.charset.now c.args.list.now c.in_ok-classes.classes c.args.section c.in_err-check_exclusions.field-0.0 c.in_ok-classes.ensures c.in_err-check_exclusions.ensures.excluded)

pub returns-clause-apart : goal.returns-clause-apart
returns-clause-apart c = all_apart_in c.args.charset.now c.args.list.now c.in_ok-classes.classes c.in_ok-classes.ensures c.in_ok-check_exclusions.ensures.apart
