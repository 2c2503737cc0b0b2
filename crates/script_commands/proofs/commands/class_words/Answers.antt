use Rattle.std.proofs.Common.{refl}
use Rattle.std.proofs.lemmas.Result.{err_from_is_err_and}
use Rattle.lc_base.proofs.ReadingLemmas.{fails_first}
use Rattle.script_commands.specs.Commands.{class_words}
use Rattle.script_commands.proofs.commands.class_words.Goals as goal

pub returns-in_err-class : goal.returns-in_err-class
unfolding class_words
returns-in_err-class c =
    let p = err_from_is_err_and c.from_residual.result c.from_residual.ensures.1 in
    rw (p.1, p.2) (fails_first c.in_err-class.field-0.0 _ _ _ refl c.in_err-class.ensures)

pub returns-in_err-value : goal.returns-in_err-value
unfolding class_words
returns-in_err-value c =
    let p = err_from_is_err_and c.from_residual-in_err-value.result c.from_residual-in_err-value.ensures.1 in
    rw (p.1, p.2, c.in_ok-class.ensures) (fails_first c.in_err-value.field-0.0 _ _ _ refl c.in_err-value.ensures)

pub returns-in_err-no_more : goal.returns-in_err-no_more
unfolding class_words
returns-in_err-no_more c =
    let p = err_from_is_err_and c.from_residual-in_err-no_more.result c.from_residual-in_err-no_more.ensures.1 in
    rw (p.1, p.2, c.in_ok-class.ensures, c.in_ok-value.ensures) (fails_first c.in_err-no_more.field-0.0 _ _ _ refl c.in_err-no_more.ensures)
