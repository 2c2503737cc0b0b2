use Rattle.std.proofs.Common.{arith}
use Rattle.std.proofs.lemmas.Result.{err_from_is_err_and}
use Rattle.output_reader.proofs.pieces.index.Goals as goal

pub returns-in_err-n-clause-back : goal.returns-in_err-n-clause-back
returns-in_err-n-clause-back c = λ n fits is.
    let p = err_from_is_err_and c.from_residual.result c.from_residual.ensures.1 in
    rw (p.1, p.2) (c.in_err-n.ensures.back n (omega arith) is)

pub returns-clause-back : goal.returns-clause-back
returns-clause-back c = λ n fits is. c.in_ok-n.ensures.back n fits is
