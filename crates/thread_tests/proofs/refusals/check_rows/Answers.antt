use Rattle.std.proofs.Common.{◌+◌, ◌-◌, ◌*◌, arith}
use Rattle.thread_tests.proofs.Rounds.{makes_fewer}
use Rattle.thread_tests.proofs.refusals.check_rows.Goals as goal

pub refusal-why-requires-clause-may : goal.refusal-why-requires-clause-may
refusal-why-requires-clause-may g c =
    let i = c.loop-i.i-counter in
    let low = c.loop-i-test.true in
    let inv = c.loop-i.invariant in
    let few = inv.1 in
    makes_fewer c.args.shared.now c.loop-i.mine (120 - 3 * i) 3 (omega arith) inv.0

pub loop-i-preserved : goal.loop-i-preserved
loop-i-preserved g c =
    let i = c.loop-i.i-counter in
    let low = c.loop-i-test.true in
    let inv = c.loop-i.invariant in
    let few = inv.1 in
    let n = 120 - 3 * (i + 1) in
    (c.refusal-why.ensures n (makes_fewer c.args.shared.now c.loop-i.mine (120 - 3 * i) (n + 3) (omega arith) inv.0), few)
