use Rattle.std.proofs.Common.{◌≡◌, ◌-◌, ◌*◌}
use Rattle.thread_tests.specs.Rounds.{MayMake}
use Rattle.thread_tests.proofs.threads.make_all.Given as goal

abbrev pub invariant-loop-i : goal.invariant-loop-i
invariant-loop-i g l = MayMake l.shared (20001 - 4 * l.i) l.mine × (l.mine.number ≡ l.fn.mine.number)
