use Rattle.std.proofs.Common.{refl}
use Rattle.std.proofs.lemmas.Result.{err_from_is_err_and}
use Rattle.lc_base.proofs.ReadingLemmas.{fails_first}
use Rattle.script_commands.specs.Commands.{catopen_command}
use Rattle.script_commands.proofs.commands.catopen_command.Goals as goal

pub returns-in_err-variable-clause-is : goal.returns-in_err-variable-clause-is
unfolding catopen_command
returns-in_err-variable-clause-is c =
    let p = err_from_is_err_and c.from_residual.result c.from_residual.ensures.1 in
    rw (p.1, p.2) (fails_first c.in_err-variable.field-0.0 _ _ _ refl c.in_err-variable.ensures)

pub returns-in_err-variable-clause-in_range : goal.returns-in_err-variable-clause-in_range
returns-in_err-variable-clause-in_range c =
    let p = err_from_is_err_and c.from_residual.result c.from_residual.ensures.1 in
    λ n. rw p.1 tt

pub returns-in_err-name-clause-is : goal.returns-in_err-name-clause-is
unfolding catopen_command
returns-in_err-name-clause-is c =
    let p = err_from_is_err_and c.from_residual-in_err-name.result c.from_residual-in_err-name.ensures.1 in
    rw (p.1, p.2, c.in_ok-variable.ensures) (fails_first c.in_err-name.field-0.0 _ _ _ refl c.in_err-name.ensures)

pub returns-in_err-name-clause-in_range : goal.returns-in_err-name-clause-in_range
returns-in_err-name-clause-in_range c =
    let p = err_from_is_err_and c.from_residual-in_err-name.result c.from_residual-in_err-name.ensures.1 in
    λ n. rw p.1 tt

pub returns-in_err-no_more-clause-is : goal.returns-in_err-no_more-clause-is
unfolding catopen_command
returns-in_err-no_more-clause-is c =
    let p = err_from_is_err_and c.from_residual-in_err-no_more.result c.from_residual-in_err-no_more.ensures.1 in
    rw (p.1, p.2, c.in_ok-variable.ensures, c.in_ok-name.ensures) (fails_first c.in_err-no_more.field-0.0 _ _ _ refl c.in_err-no_more.ensures)

pub returns-in_err-no_more-clause-in_range : goal.returns-in_err-no_more-clause-in_range
returns-in_err-no_more-clause-in_range c =
    let p = err_from_is_err_and c.from_residual-in_err-no_more.result c.from_residual-in_err-no_more.ensures.1 in
    λ n. rw p.1 tt
