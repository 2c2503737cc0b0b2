use Rattle.std.proofs.Common.{◌≡◌, arith}
use Rattle.std.proofs.lemmas.Result.{err_from_is_err_and}
use Rattle.output_reader.proofs.pieces.byte_number.Goals as goal

pub returns-in_err-n-clause-back : goal.returns-in_err-n-clause-back
returns-in_err-n-clause-back c = λ n fits is.
    let p = err_from_is_err_and c.from_residual.result c.from_residual.ensures.1 in
    rw (p.1, p.2) (c.in_err-n.ensures.back n (omega arith) is)

pub returns-then-n-gt255-clause-back : goal.returns-then-n-gt255-clause-back
returns-then-n-gt255-clause-back c = λ n fits is.
    let same : c.in_ok-n.n ≡ n = c.in_ok-n.ensures.back n (omega arith) is in
    absurd (omega arith)

pub returns-clause-back : goal.returns-clause-back
returns-clause-back c = λ n fits is. c.in_ok-n.ensures.back n (omega arith) is
