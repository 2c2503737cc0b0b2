use Rattle.std.proofs.Common.{refl}
use Rattle.std.proofs.lemmas.Result.{err_from_is_err_and}
use Rattle.lc_base.proofs.ReadingLemmas.{fails_first}
use Rattle.script_commands.specs.Commands.{money_words}
use Rattle.script_commands.proofs.commands.money_words.Goals as goal

pub returns-in_err-max : goal.returns-in_err-max
unfolding money_words
returns-in_err-max c =
    let p = err_from_is_err_and c.from_residual.result c.from_residual.ensures.1 in
    rw (p.1, p.2) (fails_first c.in_err-max.field-0.0 _ _ _ refl c.in_err-max.ensures)

pub returns-in_err-format : goal.returns-in_err-format
unfolding money_words
returns-in_err-format c =
    let p = err_from_is_err_and c.from_residual-in_err-format.result c.from_residual-in_err-format.ensures.1 in
    rw (p.1, p.2, c.in_ok-max.ensures) (fails_first c.in_err-format.field-0.0 _ _ _ refl c.in_err-format.ensures)

pub returns-in_err-amounts : goal.returns-in_err-amounts
unfolding money_words
returns-in_err-amounts c =
    let p = err_from_is_err_and c.from_residual-in_err-amounts.result c.from_residual-in_err-amounts.ensures.1 in
    rw (p.1, p.2, c.in_ok-max.ensures, c.in_ok-format.ensures) (fails_first c.in_err-amounts.field-0.0 _ _ _ refl c.in_err-amounts.ensures)
