use Rattle.std.proofs.Common.{refl}
use Rattle.std.proofs.lemmas.Result.{err_from_is_err_and}
use Rattle.lc_base.proofs.ReadingLemmas.{fails_first}
use Rattle.script_commands.specs.Commands.{new_command}
use Rattle.script_commands.proofs.commands.new_command.Goals as goal

pub returns-in_err-variable-clause-is : goal.returns-in_err-variable-clause-is
unfolding new_command
returns-in_err-variable-clause-is c =
    let p = err_from_is_err_and c.from_residual.result c.from_residual.ensures.1 in
    rw (p.1, p.2) (fails_first c.in_err-variable.field-0.0 _ _ _ refl c.in_err-variable.ensures)

pub returns-in_err-variable-clause-in_range : goal.returns-in_err-variable-clause-in_range
returns-in_err-variable-clause-in_range c =
    let p = err_from_is_err_and c.from_residual.result c.from_residual.ensures.1 in
    rw p.1 tt

pub returns-in_err-mask-clause-is : goal.returns-in_err-mask-clause-is
unfolding new_command
returns-in_err-mask-clause-is c =
    let p = err_from_is_err_and c.from_residual-in_err-mask.result c.from_residual-in_err-mask.ensures.1 in
    rw (p.1, p.2, c.in_ok-variable.ensures) (fails_first c.in_err-mask.field-0.0 _ _ _ refl c.in_err-mask.ensures)

pub returns-in_err-mask-clause-in_range : goal.returns-in_err-mask-clause-in_range
returns-in_err-mask-clause-in_range c =
    let p = err_from_is_err_and c.from_residual-in_err-mask.result c.from_residual-in_err-mask.ensures.1 in
    rw p.1 tt

pub returns-in_err-locale-clause-is : goal.returns-in_err-locale-clause-is
unfolding new_command
returns-in_err-locale-clause-is c =
    let p = err_from_is_err_and c.from_residual-in_err-locale.result c.from_residual-in_err-locale.ensures.1 in
    rw (p.1, p.2, c.in_ok-variable.ensures, c.in_ok-mask.ensures) (fails_first c.in_err-locale.field-0.0 _ _ _ refl c.in_err-locale.ensures)

pub returns-in_err-locale-clause-in_range : goal.returns-in_err-locale-clause-in_range
returns-in_err-locale-clause-in_range c =
    let p = err_from_is_err_and c.from_residual-in_err-locale.result c.from_residual-in_err-locale.ensures.1 in
    rw p.1 tt

pub returns-in_err-base-clause-is : goal.returns-in_err-base-clause-is
unfolding new_command
returns-in_err-base-clause-is c =
    let p = err_from_is_err_and c.from_residual-in_err-base.result c.from_residual-in_err-base.ensures.1 in
    rw (p.1, p.2, c.in_ok-variable.ensures, c.in_ok-mask.ensures, c.in_ok-locale.ensures) (fails_first c.in_err-base.field-0.0 _ _ _ refl c.in_err-base.ensures.is)

pub returns-in_err-base-clause-in_range : goal.returns-in_err-base-clause-in_range
returns-in_err-base-clause-in_range c =
    let p = err_from_is_err_and c.from_residual-in_err-base.result c.from_residual-in_err-base.ensures.1 in
    rw p.1 tt
