use Rattle.std.proofs.Common.{◌+◌, ◌-◌, ◌*◌, ◌∙◌, arith}
use Rattle.thread_tests.proofs.Rounds.{makes_fewer}
use Rattle.thread_tests.proofs.threads.make_all.Goals as goal

pub loop-i-preserved : goal.loop-i-preserved
loop-i-preserved g c =
    let i = c.loop-i.i in
    let n = 20001 - 4 * (i + 1) in
    let low = c.loop-i-test.true in
    let inv = c.loop-i.invariant in
    let before = makes_fewer c.args.shared.now c.loop-i.mine (20001 - 4 * i) (n + 4) (omega arith) inv.0 in (
      c.read-found.ensures.may n (c.round-went.ensures.may n before),
      c.read-found.ensures.same ∙ (c.round-went.ensures.same ∙ inv.1),
    )
