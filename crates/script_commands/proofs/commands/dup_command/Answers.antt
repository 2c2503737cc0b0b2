use Rattle.std.proofs.Common.{refl}
use Rattle.std.proofs.lemmas.Result.{err_from_is_err_and}
use Rattle.lc_base.proofs.ReadingLemmas.{fails_first}
use Rattle.script_commands.specs.Commands.{dup_command}
use Rattle.script_commands.proofs.commands.dup_command.Goals as goal

pub returns-in_err-variable-clause-is : goal.returns-in_err-variable-clause-is
unfolding dup_command
returns-in_err-variable-clause-is c =
    let p = err_from_is_err_and c.from_residual.result c.from_residual.ensures.1 in
    rw (p.1, p.2) (fails_first c.in_err-variable.field-0.0 _ _ _ refl c.in_err-variable.ensures)

pub returns-in_err-variable-clause-in_range : goal.returns-in_err-variable-clause-in_range
returns-in_err-variable-clause-in_range c =
    let p = err_from_is_err_and c.from_residual.result c.from_residual.ensures.1 in
    rw p.1 tt

pub returns-in_err-from-clause-is : goal.returns-in_err-from-clause-is
unfolding dup_command
returns-in_err-from-clause-is c =
    let p = err_from_is_err_and c.from_residual-in_err-from.result c.from_residual-in_err-from.ensures.1 in
    rw (p.1, p.2, c.in_ok-variable.ensures) (fails_first c.in_err-from.field-0.0 _ _ _ refl c.in_err-from.ensures.is)

pub returns-in_err-from-clause-in_range : goal.returns-in_err-from-clause-in_range
returns-in_err-from-clause-in_range c =
    let p = err_from_is_err_and c.from_residual-in_err-from.result c.from_residual-in_err-from.ensures.1 in
    rw p.1 tt
