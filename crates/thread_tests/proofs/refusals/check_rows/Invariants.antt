use Rattle.std.proofs.Common.{◌-◌, ◌*◌, ◌≤◌}
use Rattle.thread_tests.specs.Rounds.{MayMake}
use Rattle.thread_tests.proofs.refusals.check_rows.Given as goal

abbrev pub invariant-loop-i : goal.invariant-loop-i
invariant-loop-i g l = MayMake l.shared (120 - 3 * l.i-counter) l.mine × (l.i-end ≤ 40)
