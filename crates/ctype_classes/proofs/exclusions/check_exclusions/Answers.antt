use Rattle.std.proofs.lemmas.Result.{err_from_is_err_and}
use Rattle.ctype_classes.specs.Excluded.{is_kept_in}
use Rattle.ctype_classes.proofs.ExclusionLemmas.{names_first, names_behind, apart_all}
use Rattle.ctype_classes.proofs.exclusions.check_exclusions.Goals as goal

pub returns-in_err-check_pairs-clause-excluded : goal.returns-in_err-check_pairs-clause-excluded
returns-in_err-check_pairs-clause-excluded c =
    let p = err_from_is_err_and c.from_residual.result c.from_residual.ensures.1 in
    rw (p.1, p.2) (names_first (is_kept_in c.args.classes.now) c.args.section _ c.in_err-check_pairs.ensures.excluded)

pub returns-clause-excluded : goal.returns-clause-excluded
returns-clause-excluded c = names_behind (is_kept_in c.args.classes.now) c.args.section c.check_space.result c.in_ok-check_pairs.ensures.behind c.check_space.ensures.excluded

pub returns-clause-apart : goal.returns-clause-apart
returns-clause-apart c = apart_all (is_kept_in c.args.classes.now) c.check_space.result c.check_space.ensures.apart c.in_ok-check_pairs.ensures.apart
