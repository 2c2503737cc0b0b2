use Rattle.std.proofs.lemmas.Result.{on_err_weaker}
use Rattle.locale_cli.proofs.Writing.{front_behind}
use Rattle.locale_cli.proofs.pieces.write_halves.Goals as goal

pub returns-clause-front : goal.returns-clause-front
returns-clause-front g c =
    let ok = rw c.as_slice.ensures.value at c.in_ok-write_all.ensures.ok in
    let front = rw c.as_slice-2.ensures.value at c.write_all-2.ensures.front in
    on_err_weaker c.write_all-2.result (front_behind _ _ _ _ _ ok) front
