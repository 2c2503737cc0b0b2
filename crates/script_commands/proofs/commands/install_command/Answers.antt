use Rattle.std.proofs.Common.{refl}
use Rattle.std.proofs.lemmas.Result.{err_from_is_err_and}
use Rattle.lc_base.proofs.ReadingLemmas.{fails_first}
use Rattle.script_commands.specs.Commands.{install_command}
use Rattle.script_commands.proofs.commands.install_command.Goals as goal

pub returns-in_err-word-clause-is : goal.returns-in_err-word-clause-is
unfolding install_command
returns-in_err-word-clause-is c =
    let p = err_from_is_err_and c.from_residual.result c.from_residual.ensures.1 in
    rw (p.1, p.2) (fails_first c.in_err-word.field-0.0 _ _ _ refl c.in_err-word.ensures)

pub returns-in_err-word-clause-in_range : goal.returns-in_err-word-clause-in_range
returns-in_err-word-clause-in_range c =
    let p = err_from_is_err_and c.from_residual.result c.from_residual.ensures.1 in
    λ n. rw p.1 tt

pub returns-in_err-key-clause-is : goal.returns-in_err-key-clause-is
unfolding install_command
returns-in_err-key-clause-is c =
    let p = err_from_is_err_and c.from_residual-in_err-key.result c.from_residual-in_err-key.ensures.1 in
    rw (p.1, p.2, c.in_ok-word.ensures) (fails_first c.in_err-key.field-0.0 _ _ _ refl c.in_err-key.ensures)

pub returns-in_err-key-clause-in_range : goal.returns-in_err-key-clause-in_range
returns-in_err-key-clause-in_range c =
    let p = err_from_is_err_and c.from_residual-in_err-key.result c.from_residual-in_err-key.ensures.1 in
    λ n. rw p.1 tt

pub returns-in_err-no_more-clause-is : goal.returns-in_err-no_more-clause-is
unfolding install_command
returns-in_err-no_more-clause-is c =
    let p = err_from_is_err_and c.from_residual-in_err-no_more.result c.from_residual-in_err-no_more.ensures.1 in
    rw (p.1, p.2, c.in_ok-word.ensures, c.in_ok-key.ensures) (fails_first c.in_err-no_more.field-0.0 _ _ _ refl c.in_err-no_more.ensures)

pub returns-in_err-no_more-clause-in_range : goal.returns-in_err-no_more-clause-in_range
returns-in_err-no_more-clause-in_range c =
    let p = err_from_is_err_and c.from_residual-in_err-no_more.result c.from_residual-in_err-no_more.ensures.1 in
    λ n. rw p.1 tt
