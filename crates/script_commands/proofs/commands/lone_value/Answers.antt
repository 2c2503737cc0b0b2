use Rattle.std.proofs.Common.{refl}
use Rattle.std.proofs.lemmas.Result.{err_from_is_err_and}
use Rattle.lc_base.proofs.ReadingLemmas.{fails_first}
use Rattle.script_commands.specs.Commands.{lone_value}
use Rattle.script_commands.proofs.commands.lone_value.Goals as goal

pub returns-in_err-value : goal.returns-in_err-value
unfolding lone_value
returns-in_err-value c =
    let p = err_from_is_err_and c.from_residual.result c.from_residual.ensures.1 in
    rw (p.1, p.2) (fails_first c.in_err-value.field-0.0 _ _ _ refl c.in_err-value.ensures)

pub returns-in_err-no_more : goal.returns-in_err-no_more
unfolding lone_value
returns-in_err-no_more c =
    let p = err_from_is_err_and c.from_residual-in_err-no_more.result c.from_residual-in_err-no_more.ensures.1 in
    rw (p.1, p.2, c.in_ok-value.ensures) (fails_first c.in_err-no_more.field-0.0 _ _ _ refl c.in_err-no_more.ensures)
