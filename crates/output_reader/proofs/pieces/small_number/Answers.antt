use Rattle.std.proofs.Common.{◌≡◌, ℕ, subst, arith}
use Rattle.std.proofs.lemmas.Result.{err_from_is_err_and}
use Rattle.output_reader.specs.Reading.{Gives}
use Rattle.output_reader.proofs.pieces.small_number.Goals as goal

pub returns-in_err-n-clause-back : goal.returns-in_err-n-clause-back
returns-in_err-n-clause-back c = λ n fits is.
    let p = err_from_is_err_and c.from_residual.result c.from_residual.ensures.1 in
    rw (p.1, p.2) (c.in_err-n.ensures.back n (omega arith) is)

pub returns-clause-back : goal.returns-clause-back
returns-clause-back c = λ n fits is.
    let same : c.in_ok-n.n ≡ n = c.in_ok-n.ensures.back n (omega arith) is in
    subst (λ (m : ℕ). Gives m c.small.result) same (c.small.ensures.back (omega arith))
