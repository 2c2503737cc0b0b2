use Rattle.std.proofs.Common.{refl}
use Rattle.std.proofs.lemmas.Result.{err_from_is_err_and}
use Rattle.lc_base.proofs.ReadingLemmas.{fails_first}
use Rattle.script_commands.specs.Commands.{catgets_command}
use Rattle.script_commands.proofs.commands.catgets_command.Goals as goal

pub returns-in_err-catalog-clause-is : goal.returns-in_err-catalog-clause-is
unfolding catgets_command
returns-in_err-catalog-clause-is c =
    let p = err_from_is_err_and c.from_residual.result c.from_residual.ensures.1 in
    rw (p.1, p.2) (fails_first c.in_err-catalog.field-0.0 _ _ _ refl c.in_err-catalog.ensures.is)

pub returns-in_err-catalog-clause-in_range : goal.returns-in_err-catalog-clause-in_range
returns-in_err-catalog-clause-in_range c =
    let p = err_from_is_err_and c.from_residual.result c.from_residual.ensures.1 in
    rw p.1 tt

pub returns-in_err-set-clause-is : goal.returns-in_err-set-clause-is
unfolding catgets_command
returns-in_err-set-clause-is c =
    let p = err_from_is_err_and c.from_residual-in_err-set.result c.from_residual-in_err-set.ensures.1 in
    rw (p.1, p.2, c.in_ok-catalog.ensures.is) (fails_first c.in_err-set.field-0.0 _ _ _ refl c.in_err-set.ensures)

pub returns-in_err-set-clause-in_range : goal.returns-in_err-set-clause-in_range
returns-in_err-set-clause-in_range c =
    let p = err_from_is_err_and c.from_residual-in_err-set.result c.from_residual-in_err-set.ensures.1 in
    rw p.1 tt

pub returns-in_err-message-clause-is : goal.returns-in_err-message-clause-is
unfolding catgets_command
returns-in_err-message-clause-is c =
    let p = err_from_is_err_and c.from_residual-in_err-message.result c.from_residual-in_err-message.ensures.1 in
    rw (p.1, p.2, c.in_ok-catalog.ensures.is, c.in_ok-set.ensures) (fails_first c.in_err-message.field-0.0 _ _ _ refl c.in_err-message.ensures)

pub returns-in_err-message-clause-in_range : goal.returns-in_err-message-clause-in_range
returns-in_err-message-clause-in_range c =
    let p = err_from_is_err_and c.from_residual-in_err-message.result c.from_residual-in_err-message.ensures.1 in
    rw p.1 tt

pub returns-in_err-default-clause-is : goal.returns-in_err-default-clause-is
unfolding catgets_command
returns-in_err-default-clause-is c =
    let p = err_from_is_err_and c.from_residual-in_err-default.result c.from_residual-in_err-default.ensures.1 in
    rw (p.1, p.2, c.in_ok-catalog.ensures.is, c.in_ok-set.ensures, c.in_ok-message.ensures) (fails_first c.in_err-default.field-0.0 _ _ _ refl c.in_err-default.ensures)

pub returns-in_err-default-clause-in_range : goal.returns-in_err-default-clause-in_range
returns-in_err-default-clause-in_range c =
    let p = err_from_is_err_and c.from_residual-in_err-default.result c.from_residual-in_err-default.ensures.1 in
    rw p.1 tt

pub returns-in_err-no_more-clause-is : goal.returns-in_err-no_more-clause-is
unfolding catgets_command
returns-in_err-no_more-clause-is c =
    let p = err_from_is_err_and c.from_residual-in_err-no_more.result c.from_residual-in_err-no_more.ensures.1 in
    rw (p.1, p.2, c.in_ok-catalog.ensures.is, c.in_ok-set.ensures, c.in_ok-message.ensures, c.in_ok-default.ensures) (fails_first c.in_err-no_more.field-0.0 _ _ _ refl c.in_err-no_more.ensures)

pub returns-in_err-no_more-clause-in_range : goal.returns-in_err-no_more-clause-in_range
returns-in_err-no_more-clause-in_range c =
    let p = err_from_is_err_and c.from_residual-in_err-no_more.result c.from_residual-in_err-no_more.ensures.1 in
    rw p.1 tt
