use Rattle.std.proofs.Common.{refl}
use Rattle.std.proofs.lemmas.Result.{err_from_is_err_and}
use Rattle.lc_base.proofs.ReadingLemmas.{fails_first}
use Rattle.script_commands.specs.Commands.{lone_target}
use Rattle.script_commands.proofs.arguments.lone_target.Goals as goal

pub returns-in_err-named-clause-is : goal.returns-in_err-named-clause-is
unfolding lone_target
returns-in_err-named-clause-is c =
    let p = err_from_is_err_and c.from_residual.result c.from_residual.ensures.1 in
    rw (p.1, p.2) (fails_first c.in_err-named.field-0.0 _ _ _ refl c.in_err-named.ensures.is)

pub returns-in_err-named-clause-owned : goal.returns-in_err-named-clause-owned
returns-in_err-named-clause-owned c =
    let p = err_from_is_err_and c.from_residual.result c.from_residual.ensures.1 in
    rw p.1 tt

pub returns-in_err-no_more-clause-is : goal.returns-in_err-no_more-clause-is
unfolding lone_target
returns-in_err-no_more-clause-is c =
    let p = err_from_is_err_and c.from_residual-in_err-no_more.result c.from_residual-in_err-no_more.ensures.1 in
    rw (p.1, p.2, c.in_ok-named.ensures.is) (fails_first c.in_err-no_more.field-0.0 _ _ _ refl c.in_err-no_more.ensures)

pub returns-in_err-no_more-clause-owned : goal.returns-in_err-no_more-clause-owned
returns-in_err-no_more-clause-owned c =
    let p = err_from_is_err_and c.from_residual-in_err-no_more.result c.from_residual-in_err-no_more.ensures.1 in
    rw p.1 tt
