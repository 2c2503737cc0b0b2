use Rattle.std.proofs.Common.{refl}
use Rattle.std.proofs.lemmas.Result.{err_from_is_err_and}
use Rattle.lc_base.proofs.ReadingLemmas.{fails_first}
use Rattle.script_commands.specs.Commands.{moment}
use Rattle.script_commands.proofs.arguments.moment.Goals as goal

pub returns-in_err-year : goal.returns-in_err-year
unfolding moment
returns-in_err-year c =
    let p = err_from_is_err_and c.from_residual.result c.from_residual.ensures.1 in
    rw (p.1, p.2) (fails_first c.in_err-year.field-0.0 _ _ _ refl c.in_err-year.ensures)

pub returns-in_err-hour : goal.returns-in_err-hour
unfolding moment
returns-in_err-hour c =
    let p = err_from_is_err_and c.from_residual-in_err-hour.result c.from_residual-in_err-hour.ensures.1 in
    rw (p.1, p.2, c.in_ok-year.ensures) (fails_first c.in_err-hour.field-0.0 _ _ _ refl c.in_err-hour.ensures)

pub returns-in_err-wday : goal.returns-in_err-wday
unfolding moment
returns-in_err-wday c =
    let p = err_from_is_err_and c.from_residual-in_err-wday.result c.from_residual-in_err-wday.ensures.1 in
    rw (p.1, p.2, c.in_ok-year.ensures, c.in_ok-hour.ensures) (fails_first c.in_err-wday.field-0.0 _ _ _ refl c.in_err-wday.ensures)

pub returns-in_err-yday : goal.returns-in_err-yday
unfolding moment
returns-in_err-yday c =
    let p = err_from_is_err_and c.from_residual-in_err-yday.result c.from_residual-in_err-yday.ensures.1 in
    rw (p.1, p.2, c.in_ok-year.ensures, c.in_ok-hour.ensures, c.in_ok-wday.ensures) (fails_first c.in_err-yday.field-0.0 _ _ _ refl c.in_err-yday.ensures)

pub returns-in_err-offset : goal.returns-in_err-offset
unfolding moment
returns-in_err-offset c =
    let p = err_from_is_err_and c.from_residual-in_err-offset.result c.from_residual-in_err-offset.ensures.1 in
    rw (p.1, p.2, c.in_ok-year.ensures, c.in_ok-hour.ensures, c.in_ok-wday.ensures, c.in_ok-yday.ensures) (fails_first c.in_err-offset.field-0.0 _ _ _ refl c.in_err-offset.ensures)

pub returns-in_err-zone : goal.returns-in_err-zone
unfolding moment
returns-in_err-zone c =
    let p = err_from_is_err_and c.from_residual-in_err-zone.result c.from_residual-in_err-zone.ensures.1 in
    rw (p.1, p.2, c.in_ok-year.ensures, c.in_ok-hour.ensures, c.in_ok-wday.ensures, c.in_ok-yday.ensures, c.in_ok-offset.ensures) (fails_first c.in_err-zone.field-0.0 _ _ _ refl c.in_err-zone.ensures)
