use Rattle.std.proofs.Common.{◌≡◌, replicate, None}
use Rattle.handle_table.proofs.kept.nothing_installed.Given as goal

abbrev pub invariant-loop-i : goal.invariant-loop-i
invariant-loop-i g l = l.installed.items ≡ replicate l._i None
