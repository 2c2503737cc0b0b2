use Rattle.std.proofs.Common.{◌+◌, ◌-◌, ◌∙◌, arith}
use Rattle.thread_tests.proofs.Rounds.{makes_fewer}
use Rattle.thread_tests.proofs.threads.set_all.Goals as goal

pub loop-i-preserved : goal.loop-i-preserved
loop-i-preserved g c =
    let i = c.loop-i.i in
    let n = 20001 - (i + 1) in
    let low = c.loop-i-test.true in
    let inv = c.loop-i.invariant in
    let before = makes_fewer c.args.shared.now c.loop-i.mine (20001 - i) (n + 1) (omega arith) inv.0 in (
      c.set-went.ensures.may n before,
      c.set-went.ensures.same ∙ inv.1,
    )
