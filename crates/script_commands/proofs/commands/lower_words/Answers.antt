use Rattle.std.proofs.Common.{refl}
use Rattle.std.proofs.lemmas.Result.{err_from_is_err_and}
use Rattle.lc_base.proofs.ReadingLemmas.{fails_first}
use Rattle.script_commands.specs.Commands.{lower_words}
use Rattle.script_commands.proofs.commands.lower_words.Goals as goal

pub returns-in_err-lone_value : goal.returns-in_err-lone_value
unfolding lower_words
returns-in_err-lone_value c =
    let p = err_from_is_err_and c.from_residual.result c.from_residual.ensures.1 in
    rw (p.1, p.2) (fails_first c.in_err-lone_value.field-0.0 _ _ _ refl c.in_err-lone_value.ensures)
