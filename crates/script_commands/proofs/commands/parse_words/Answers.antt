use Rattle.std.proofs.Common.{refl}
use Rattle.std.proofs.lemmas.Result.{err_from_is_err_and}
use Rattle.lc_base.proofs.ReadingLemmas.{fails_first}
use Rattle.script_commands.specs.Commands.{parse_words}
use Rattle.script_commands.proofs.commands.parse_words.Goals as goal

pub returns-in_err-format : goal.returns-in_err-format
unfolding parse_words
returns-in_err-format c =
    let p = err_from_is_err_and c.from_residual.result c.from_residual.ensures.1 in
    rw (p.1, p.2) (fails_first c.in_err-format.field-0.0 _ _ _ refl c.in_err-format.ensures)

pub returns-in_err-text : goal.returns-in_err-text
unfolding parse_words
returns-in_err-text c =
    let p = err_from_is_err_and c.from_residual-in_err-text.result c.from_residual-in_err-text.ensures.1 in
    rw (p.1, p.2, c.in_ok-format.ensures) (fails_first c.in_err-text.field-0.0 _ _ _ refl c.in_err-text.ensures)

pub returns-in_err-no_more : goal.returns-in_err-no_more
unfolding parse_words
returns-in_err-no_more c =
    let p = err_from_is_err_and c.from_residual-in_err-no_more.result c.from_residual-in_err-no_more.ensures.1 in
    rw (p.1, p.2, c.in_ok-format.ensures, c.in_ok-text.ensures) (fails_first c.in_err-no_more.field-0.0 _ _ _ refl c.in_err-no_more.ensures)
