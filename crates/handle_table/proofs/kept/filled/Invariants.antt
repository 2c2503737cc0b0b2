use Rattle.std.proofs.Common.{◌≡◌, replicate}
use Rattle.handle_table.proofs.kept.filled.Given as goal

abbrev pub invariant-loop-i : goal.invariant-loop-i
invariant-loop-i g l = l.values.items ≡ replicate l._i l.value
