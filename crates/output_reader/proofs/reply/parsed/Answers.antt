use Rattle.std.proofs.Common.{◌∷◌, ◌++◌, sym}
use Rattle.std.specs.Fmt.{decimal}
use Rattle.std.proofs.lemmas.Result.{err_from_is_err_and}
use Rattle.script_out.specs.Output.{known_text}
use Rattle.output_reader.proofs.Fields.{parsed_parts, parsed_same}
use Rattle.output_reader.proofs.reply.parsed.Goals as goal

pub returns-in_err-year-clause-back : goal.returns-in_err-year-clause-back
returns-in_err-year-clause-back c = λ p at fits small is.
    let whole = parsed_parts p at c.args.bytes.now is in
    let e = err_from_is_err_and c.from_residual.result c.from_residual.ensures.1 in
    rw (e.1, e.2) (c.in_err-year.ensures.back p.year (known_text p.mon ++ 32 ∷ (known_text p.mday ++ 32 ∷ (known_text p.hour ++ 32 ∷ (known_text p.min ++ 32 ∷ (known_text p.sec ++ 32 ∷ (known_text p.wday ++ 32 ∷ (known_text p.yday ++ 32 ∷ (decimal at)))))))) fits.year whole)

pub returns-in_err-mon-clause-back : goal.returns-in_err-mon-clause-back
returns-in_err-mon-clause-back c = λ p at fits small is.
    let whole = parsed_parts p at c.args.bytes.now is in
    let cut_year = c.in_ok-year.ensures.back p.year (known_text p.mon ++ 32 ∷ (known_text p.mday ++ 32 ∷ (known_text p.hour ++ 32 ∷ (known_text p.min ++ 32 ∷ (known_text p.sec ++ 32 ∷ (known_text p.wday ++ 32 ∷ (known_text p.yday ++ 32 ∷ (decimal at)))))))) fits.year whole in
    let e = err_from_is_err_and c.from_residual-in_err-mon.result c.from_residual-in_err-mon.ensures.1 in
    rw (e.1, e.2) (c.in_err-mon.ensures.back p.mon (known_text p.mday ++ 32 ∷ (known_text p.hour ++ 32 ∷ (known_text p.min ++ 32 ∷ (known_text p.sec ++ 32 ∷ (known_text p.wday ++ 32 ∷ (known_text p.yday ++ 32 ∷ (decimal at))))))) fits.mon cut_year.1)

pub returns-in_err-mday-clause-back : goal.returns-in_err-mday-clause-back
returns-in_err-mday-clause-back c = λ p at fits small is.
    let whole = parsed_parts p at c.args.bytes.now is in
    let cut_year = c.in_ok-year.ensures.back p.year (known_text p.mon ++ 32 ∷ (known_text p.mday ++ 32 ∷ (known_text p.hour ++ 32 ∷ (known_text p.min ++ 32 ∷ (known_text p.sec ++ 32 ∷ (known_text p.wday ++ 32 ∷ (known_text p.yday ++ 32 ∷ (decimal at)))))))) fits.year whole in
    let cut_mon = c.in_ok-mon.ensures.back p.mon (known_text p.mday ++ 32 ∷ (known_text p.hour ++ 32 ∷ (known_text p.min ++ 32 ∷ (known_text p.sec ++ 32 ∷ (known_text p.wday ++ 32 ∷ (known_text p.yday ++ 32 ∷ (decimal at))))))) fits.mon cut_year.1 in
    let e = err_from_is_err_and c.from_residual-in_err-mday.result c.from_residual-in_err-mday.ensures.1 in
    rw (e.1, e.2) (c.in_err-mday.ensures.back p.mday (known_text p.hour ++ 32 ∷ (known_text p.min ++ 32 ∷ (known_text p.sec ++ 32 ∷ (known_text p.wday ++ 32 ∷ (known_text p.yday ++ 32 ∷ (decimal at)))))) fits.mday cut_mon.1)

pub returns-in_err-hour-clause-back : goal.returns-in_err-hour-clause-back
returns-in_err-hour-clause-back c = λ p at fits small is.
    let whole = parsed_parts p at c.args.bytes.now is in
    let cut_year = c.in_ok-year.ensures.back p.year (known_text p.mon ++ 32 ∷ (known_text p.mday ++ 32 ∷ (known_text p.hour ++ 32 ∷ (known_text p.min ++ 32 ∷ (known_text p.sec ++ 32 ∷ (known_text p.wday ++ 32 ∷ (known_text p.yday ++ 32 ∷ (decimal at)))))))) fits.year whole in
    let cut_mon = c.in_ok-mon.ensures.back p.mon (known_text p.mday ++ 32 ∷ (known_text p.hour ++ 32 ∷ (known_text p.min ++ 32 ∷ (known_text p.sec ++ 32 ∷ (known_text p.wday ++ 32 ∷ (known_text p.yday ++ 32 ∷ (decimal at))))))) fits.mon cut_year.1 in
    let cut_mday = c.in_ok-mday.ensures.back p.mday (known_text p.hour ++ 32 ∷ (known_text p.min ++ 32 ∷ (known_text p.sec ++ 32 ∷ (known_text p.wday ++ 32 ∷ (known_text p.yday ++ 32 ∷ (decimal at)))))) fits.mday cut_mon.1 in
    let e = err_from_is_err_and c.from_residual-in_err-hour.result c.from_residual-in_err-hour.ensures.1 in
    rw (e.1, e.2) (c.in_err-hour.ensures.back p.hour (known_text p.min ++ 32 ∷ (known_text p.sec ++ 32 ∷ (known_text p.wday ++ 32 ∷ (known_text p.yday ++ 32 ∷ (decimal at))))) fits.hour cut_mday.1)

pub returns-in_err-min-clause-back : goal.returns-in_err-min-clause-back
returns-in_err-min-clause-back c = λ p at fits small is.
    let whole = parsed_parts p at c.args.bytes.now is in
    let cut_year = c.in_ok-year.ensures.back p.year (known_text p.mon ++ 32 ∷ (known_text p.mday ++ 32 ∷ (known_text p.hour ++ 32 ∷ (known_text p.min ++ 32 ∷ (known_text p.sec ++ 32 ∷ (known_text p.wday ++ 32 ∷ (known_text p.yday ++ 32 ∷ (decimal at)))))))) fits.year whole in
    let cut_mon = c.in_ok-mon.ensures.back p.mon (known_text p.mday ++ 32 ∷ (known_text p.hour ++ 32 ∷ (known_text p.min ++ 32 ∷ (known_text p.sec ++ 32 ∷ (known_text p.wday ++ 32 ∷ (known_text p.yday ++ 32 ∷ (decimal at))))))) fits.mon cut_year.1 in
    let cut_mday = c.in_ok-mday.ensures.back p.mday (known_text p.hour ++ 32 ∷ (known_text p.min ++ 32 ∷ (known_text p.sec ++ 32 ∷ (known_text p.wday ++ 32 ∷ (known_text p.yday ++ 32 ∷ (decimal at)))))) fits.mday cut_mon.1 in
    let cut_hour = c.in_ok-hour.ensures.back p.hour (known_text p.min ++ 32 ∷ (known_text p.sec ++ 32 ∷ (known_text p.wday ++ 32 ∷ (known_text p.yday ++ 32 ∷ (decimal at))))) fits.hour cut_mday.1 in
    let e = err_from_is_err_and c.from_residual-in_err-min.result c.from_residual-in_err-min.ensures.1 in
    rw (e.1, e.2) (c.in_err-min.ensures.back p.min (known_text p.sec ++ 32 ∷ (known_text p.wday ++ 32 ∷ (known_text p.yday ++ 32 ∷ (decimal at)))) fits.min cut_hour.1)

pub returns-in_err-sec-clause-back : goal.returns-in_err-sec-clause-back
returns-in_err-sec-clause-back c = λ p at fits small is.
    let whole = parsed_parts p at c.args.bytes.now is in
    let cut_year = c.in_ok-year.ensures.back p.year (known_text p.mon ++ 32 ∷ (known_text p.mday ++ 32 ∷ (known_text p.hour ++ 32 ∷ (known_text p.min ++ 32 ∷ (known_text p.sec ++ 32 ∷ (known_text p.wday ++ 32 ∷ (known_text p.yday ++ 32 ∷ (decimal at)))))))) fits.year whole in
    let cut_mon = c.in_ok-mon.ensures.back p.mon (known_text p.mday ++ 32 ∷ (known_text p.hour ++ 32 ∷ (known_text p.min ++ 32 ∷ (known_text p.sec ++ 32 ∷ (known_text p.wday ++ 32 ∷ (known_text p.yday ++ 32 ∷ (decimal at))))))) fits.mon cut_year.1 in
    let cut_mday = c.in_ok-mday.ensures.back p.mday (known_text p.hour ++ 32 ∷ (known_text p.min ++ 32 ∷ (known_text p.sec ++ 32 ∷ (known_text p.wday ++ 32 ∷ (known_text p.yday ++ 32 ∷ (decimal at)))))) fits.mday cut_mon.1 in
    let cut_hour = c.in_ok-hour.ensures.back p.hour (known_text p.min ++ 32 ∷ (known_text p.sec ++ 32 ∷ (known_text p.wday ++ 32 ∷ (known_text p.yday ++ 32 ∷ (decimal at))))) fits.hour cut_mday.1 in
    let cut_min = c.in_ok-min.ensures.back p.min (known_text p.sec ++ 32 ∷ (known_text p.wday ++ 32 ∷ (known_text p.yday ++ 32 ∷ (decimal at)))) fits.min cut_hour.1 in
    let e = err_from_is_err_and c.from_residual-in_err-sec.result c.from_residual-in_err-sec.ensures.1 in
    rw (e.1, e.2) (c.in_err-sec.ensures.back p.sec (known_text p.wday ++ 32 ∷ (known_text p.yday ++ 32 ∷ (decimal at))) fits.sec cut_min.1)

pub returns-in_err-wday-clause-back : goal.returns-in_err-wday-clause-back
returns-in_err-wday-clause-back c = λ p at fits small is.
    let whole = parsed_parts p at c.args.bytes.now is in
    let cut_year = c.in_ok-year.ensures.back p.year (known_text p.mon ++ 32 ∷ (known_text p.mday ++ 32 ∷ (known_text p.hour ++ 32 ∷ (known_text p.min ++ 32 ∷ (known_text p.sec ++ 32 ∷ (known_text p.wday ++ 32 ∷ (known_text p.yday ++ 32 ∷ (decimal at)))))))) fits.year whole in
    let cut_mon = c.in_ok-mon.ensures.back p.mon (known_text p.mday ++ 32 ∷ (known_text p.hour ++ 32 ∷ (known_text p.min ++ 32 ∷ (known_text p.sec ++ 32 ∷ (known_text p.wday ++ 32 ∷ (known_text p.yday ++ 32 ∷ (decimal at))))))) fits.mon cut_year.1 in
    let cut_mday = c.in_ok-mday.ensures.back p.mday (known_text p.hour ++ 32 ∷ (known_text p.min ++ 32 ∷ (known_text p.sec ++ 32 ∷ (known_text p.wday ++ 32 ∷ (known_text p.yday ++ 32 ∷ (decimal at)))))) fits.mday cut_mon.1 in
    let cut_hour = c.in_ok-hour.ensures.back p.hour (known_text p.min ++ 32 ∷ (known_text p.sec ++ 32 ∷ (known_text p.wday ++ 32 ∷ (known_text p.yday ++ 32 ∷ (decimal at))))) fits.hour cut_mday.1 in
    let cut_min = c.in_ok-min.ensures.back p.min (known_text p.sec ++ 32 ∷ (known_text p.wday ++ 32 ∷ (known_text p.yday ++ 32 ∷ (decimal at)))) fits.min cut_hour.1 in
    let cut_sec = c.in_ok-sec.ensures.back p.sec (known_text p.wday ++ 32 ∷ (known_text p.yday ++ 32 ∷ (decimal at))) fits.sec cut_min.1 in
    let e = err_from_is_err_and c.from_residual-in_err-wday.result c.from_residual-in_err-wday.ensures.1 in
    rw (e.1, e.2) (c.in_err-wday.ensures.back p.wday (known_text p.yday ++ 32 ∷ (decimal at)) fits.wday cut_sec.1)

pub returns-in_err-yday-clause-back : goal.returns-in_err-yday-clause-back
returns-in_err-yday-clause-back c = λ p at fits small is.
    let whole = parsed_parts p at c.args.bytes.now is in
    let cut_year = c.in_ok-year.ensures.back p.year (known_text p.mon ++ 32 ∷ (known_text p.mday ++ 32 ∷ (known_text p.hour ++ 32 ∷ (known_text p.min ++ 32 ∷ (known_text p.sec ++ 32 ∷ (known_text p.wday ++ 32 ∷ (known_text p.yday ++ 32 ∷ (decimal at)))))))) fits.year whole in
    let cut_mon = c.in_ok-mon.ensures.back p.mon (known_text p.mday ++ 32 ∷ (known_text p.hour ++ 32 ∷ (known_text p.min ++ 32 ∷ (known_text p.sec ++ 32 ∷ (known_text p.wday ++ 32 ∷ (known_text p.yday ++ 32 ∷ (decimal at))))))) fits.mon cut_year.1 in
    let cut_mday = c.in_ok-mday.ensures.back p.mday (known_text p.hour ++ 32 ∷ (known_text p.min ++ 32 ∷ (known_text p.sec ++ 32 ∷ (known_text p.wday ++ 32 ∷ (known_text p.yday ++ 32 ∷ (decimal at)))))) fits.mday cut_mon.1 in
    let cut_hour = c.in_ok-hour.ensures.back p.hour (known_text p.min ++ 32 ∷ (known_text p.sec ++ 32 ∷ (known_text p.wday ++ 32 ∷ (known_text p.yday ++ 32 ∷ (decimal at))))) fits.hour cut_mday.1 in
    let cut_min = c.in_ok-min.ensures.back p.min (known_text p.sec ++ 32 ∷ (known_text p.wday ++ 32 ∷ (known_text p.yday ++ 32 ∷ (decimal at)))) fits.min cut_hour.1 in
    let cut_sec = c.in_ok-sec.ensures.back p.sec (known_text p.wday ++ 32 ∷ (known_text p.yday ++ 32 ∷ (decimal at))) fits.sec cut_min.1 in
    let cut_wday = c.in_ok-wday.ensures.back p.wday (known_text p.yday ++ 32 ∷ (decimal at)) fits.wday cut_sec.1 in
    let e = err_from_is_err_and c.from_residual-in_err-yday.result c.from_residual-in_err-yday.ensures.1 in
    rw (e.1, e.2) (c.in_err-yday.ensures.back p.yday (decimal at) fits.yday cut_wday.1)

pub returns-in_err-at-clause-back : goal.returns-in_err-at-clause-back
returns-in_err-at-clause-back c = λ p at fits small is.
    let whole = parsed_parts p at c.args.bytes.now is in
    let cut_year = c.in_ok-year.ensures.back p.year (known_text p.mon ++ 32 ∷ (known_text p.mday ++ 32 ∷ (known_text p.hour ++ 32 ∷ (known_text p.min ++ 32 ∷ (known_text p.sec ++ 32 ∷ (known_text p.wday ++ 32 ∷ (known_text p.yday ++ 32 ∷ (decimal at)))))))) fits.year whole in
    let cut_mon = c.in_ok-mon.ensures.back p.mon (known_text p.mday ++ 32 ∷ (known_text p.hour ++ 32 ∷ (known_text p.min ++ 32 ∷ (known_text p.sec ++ 32 ∷ (known_text p.wday ++ 32 ∷ (known_text p.yday ++ 32 ∷ (decimal at))))))) fits.mon cut_year.1 in
    let cut_mday = c.in_ok-mday.ensures.back p.mday (known_text p.hour ++ 32 ∷ (known_text p.min ++ 32 ∷ (known_text p.sec ++ 32 ∷ (known_text p.wday ++ 32 ∷ (known_text p.yday ++ 32 ∷ (decimal at)))))) fits.mday cut_mon.1 in
    let cut_hour = c.in_ok-hour.ensures.back p.hour (known_text p.min ++ 32 ∷ (known_text p.sec ++ 32 ∷ (known_text p.wday ++ 32 ∷ (known_text p.yday ++ 32 ∷ (decimal at))))) fits.hour cut_mday.1 in
    let cut_min = c.in_ok-min.ensures.back p.min (known_text p.sec ++ 32 ∷ (known_text p.wday ++ 32 ∷ (known_text p.yday ++ 32 ∷ (decimal at)))) fits.min cut_hour.1 in
    let cut_sec = c.in_ok-sec.ensures.back p.sec (known_text p.wday ++ 32 ∷ (known_text p.yday ++ 32 ∷ (decimal at))) fits.sec cut_min.1 in
    let cut_wday = c.in_ok-wday.ensures.back p.wday (known_text p.yday ++ 32 ∷ (decimal at)) fits.wday cut_sec.1 in
    let cut_yday = c.in_ok-yday.ensures.back p.yday (decimal at) fits.yday cut_wday.1 in
    let e = err_from_is_err_and c.from_residual-in_err-at.result c.from_residual-in_err-at.ensures.1 in
    rw (e.1, e.2) (c.in_err-at.ensures.back at small (sym cut_yday.1))

pub returns-clause-back : goal.returns-clause-back
returns-clause-back c = λ p at fits small is.
    let whole = parsed_parts p at c.args.bytes.now is in
    let cut_year = c.in_ok-year.ensures.back p.year (known_text p.mon ++ 32 ∷ (known_text p.mday ++ 32 ∷ (known_text p.hour ++ 32 ∷ (known_text p.min ++ 32 ∷ (known_text p.sec ++ 32 ∷ (known_text p.wday ++ 32 ∷ (known_text p.yday ++ 32 ∷ (decimal at)))))))) fits.year whole in
    let cut_mon = c.in_ok-mon.ensures.back p.mon (known_text p.mday ++ 32 ∷ (known_text p.hour ++ 32 ∷ (known_text p.min ++ 32 ∷ (known_text p.sec ++ 32 ∷ (known_text p.wday ++ 32 ∷ (known_text p.yday ++ 32 ∷ (decimal at))))))) fits.mon cut_year.1 in
    let cut_mday = c.in_ok-mday.ensures.back p.mday (known_text p.hour ++ 32 ∷ (known_text p.min ++ 32 ∷ (known_text p.sec ++ 32 ∷ (known_text p.wday ++ 32 ∷ (known_text p.yday ++ 32 ∷ (decimal at)))))) fits.mday cut_mon.1 in
    let cut_hour = c.in_ok-hour.ensures.back p.hour (known_text p.min ++ 32 ∷ (known_text p.sec ++ 32 ∷ (known_text p.wday ++ 32 ∷ (known_text p.yday ++ 32 ∷ (decimal at))))) fits.hour cut_mday.1 in
    let cut_min = c.in_ok-min.ensures.back p.min (known_text p.sec ++ 32 ∷ (known_text p.wday ++ 32 ∷ (known_text p.yday ++ 32 ∷ (decimal at)))) fits.min cut_hour.1 in
    let cut_sec = c.in_ok-sec.ensures.back p.sec (known_text p.wday ++ 32 ∷ (known_text p.yday ++ 32 ∷ (decimal at))) fits.sec cut_min.1 in
    let cut_wday = c.in_ok-wday.ensures.back p.wday (known_text p.yday ++ 32 ∷ (decimal at)) fits.wday cut_sec.1 in
    let cut_yday = c.in_ok-yday.ensures.back p.yday (decimal at) fits.yday cut_wday.1 in
    parsed_same p _ _ _ _ _ _ _ _ at _ cut_year.0 cut_mon.0 cut_mday.0 cut_hour.0 cut_min.0 cut_sec.0 cut_wday.0 cut_yday.0 (c.in_ok-at.ensures.back at small (sym cut_yday.1))
