use Rattle.std.proofs.Common.{arith, ◌≡◌, ℕ, replicate, None, ap, ◌∙◌}
use Rattle.handle_table.proofs.kept.nothing_installed.Goals as goal

pub returns : goal.returns
returns g c =
    let all : c.loop-i._i ≡ c.args.count = omega (arith, c.loop-i-test.false, c.loop-i.auto._i-end) in
    c.loop-i.invariant ∙ ap (λ (n : ℕ). replicate n None) all
