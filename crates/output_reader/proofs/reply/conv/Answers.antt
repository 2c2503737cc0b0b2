use Rattle.std.proofs.Common.{sym}
use Rattle.std.proofs.lemmas.Result.{err_from_is_err_and}
use Rattle.script_out.specs.Output.{numbers_text}
use Rattle.output_reader.proofs.Quotes.{ends_texts}
use Rattle.output_reader.proofs.reply.conv.Goals as goal

pub returns-in_err-found-clause-back : goal.returns-in_err-found-clause-back
returns-in_err-found-clause-back c = λ all ns fit is.
    let p = err_from_is_err_and c.from_residual.result c.from_residual.ensures.1 in
    rw (p.1, p.2) (c.in_err-found.ensures all (numbers_text ns) (ends_texts ns fit) (sym is))

pub returns-in_err-values-clause-back : goal.returns-in_err-values-clause-back
returns-in_err-values-clause-back c = λ all ns fit is.
    let cut = c.in_ok-found.ensures all (numbers_text ns) (ends_texts ns fit) (sym is) in
    let p = err_from_is_err_and c.from_residual-in_err-values.result c.from_residual-in_err-values.ensures.1 in
    rw (p.1, p.2) (c.in_err-values.ensures.back ns fit (sym cut.1))

pub returns-clause-back : goal.returns-clause-back
returns-clause-back c = λ all ns fit is.
    let cut = c.in_ok-found.ensures all (numbers_text ns) (ends_texts ns fit) (sym is) in
    let values = c.in_ok-values.ensures.back ns fit (sym cut.1) in
    cc (cut.0, values)
