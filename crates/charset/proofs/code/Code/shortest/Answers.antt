use Rattle.std.proofs.Common.{◌∙◌, ◌-◌, ◌≤◌, List, ℕ, ap, drop, length, arith}
use Rattle.std.proofs.lemmas.List.{take_all, length-drop}
use Rattle.charset.proofs.Shortest.{drop-to_be_bytes-shortest}
use Rattle.charset.proofs.code.Code.shortest.Goals as goal

pub returns-clause-same : goal.returns-clause-same
returns-clause-same c =
    let few : length (drop c.min-zeros.result c.to_be_bytes-bytes.result) ≤ 4 - c.min-zeros.result =
    omega (arith, length-drop c.min-zeros.result c.to_be_bytes-bytes.result, ap length c.to_be_bytes-bytes.ensures) in
    c.of.ensures.same
    ∙ take_all (4 - c.min-zeros.result) (drop c.min-zeros.result c.to_be_bytes-bytes.result) few
    ∙ ap (λ (bs : List ℕ). drop c.min-zeros.result bs) c.to_be_bytes-bytes.ensures
    ∙ drop-to_be_bytes-shortest c.args.w c.min-zeros.result c.ranges.w.fits c.min-zeros.ensures
