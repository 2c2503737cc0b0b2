use Rattle.std.proofs.Common.{refl}
use Rattle.std.proofs.lemmas.Result.{err_from_is_err_and}
use Rattle.lc_base.proofs.ReadingLemmas.{fails_first}
use Rattle.script_commands.specs.Commands.{setlocale_command}
use Rattle.script_commands.proofs.commands.setlocale_command.Goals as goal

pub returns-in_err-categories-clause-is : goal.returns-in_err-categories-clause-is
unfolding setlocale_command
returns-in_err-categories-clause-is c =
    let p = err_from_is_err_and c.from_residual.result c.from_residual.ensures.1 in
    rw (p.1, p.2) (fails_first c.in_err-categories.field-0.0 _ _ _ refl c.in_err-categories.ensures)

pub returns-in_err-categories-clause-in_range : goal.returns-in_err-categories-clause-in_range
returns-in_err-categories-clause-in_range c =
    let p = err_from_is_err_and c.from_residual.result c.from_residual.ensures.1 in
    λ n. rw p.1 tt

pub returns-then-is_over-clause-in_range : goal.returns-then-is_over-clause-in_range
returns-then-is_over-clause-in_range c = λ n. tt

pub returns-clause-in_range : goal.returns-clause-in_range
returns-clause-in_range c = λ n. tt
