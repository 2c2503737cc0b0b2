use Rattle.std.proofs.Common.{refl}
use Rattle.std.proofs.lemmas.Result.{err_from_is_err_and}
use Rattle.lc_base.proofs.ReadingLemmas.{fails_first}
use Rattle.script_commands.specs.Commands.{post_command}
use Rattle.script_commands.proofs.commands.post_command.Goals as goal

pub returns-in_err-cell-clause-is : goal.returns-in_err-cell-clause-is
unfolding post_command
returns-in_err-cell-clause-is c =
    let p = err_from_is_err_and c.from_residual.result c.from_residual.ensures.1 in
    rw (p.1, p.2) (fails_first c.in_err-cell.field-0.0 _ _ _ refl c.in_err-cell.ensures.is)

pub returns-in_err-cell-clause-in_range : goal.returns-in_err-cell-clause-in_range
returns-in_err-cell-clause-in_range c =
    let p = err_from_is_err_and c.from_residual.result c.from_residual.ensures.1 in
    rw p.1 tt

pub returns-in_err-named-clause-is : goal.returns-in_err-named-clause-is
unfolding post_command
returns-in_err-named-clause-is c =
    let p = err_from_is_err_and c.from_residual-in_err-named.result c.from_residual-in_err-named.ensures.1 in
    rw (p.1, p.2, c.in_ok-cell.ensures.is) (fails_first c.in_err-named.field-0.0 _ _ _ refl c.in_err-named.ensures.is)

pub returns-in_err-named-clause-in_range : goal.returns-in_err-named-clause-in_range
returns-in_err-named-clause-in_range c =
    let p = err_from_is_err_and c.from_residual-in_err-named.result c.from_residual-in_err-named.ensures.1 in
    rw p.1 tt
