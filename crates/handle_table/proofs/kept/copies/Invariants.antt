use Rattle.std.proofs.Common.{◌≡◌, length}
use Rattle.handle_table.proofs.kept.copies.Given as goal

abbrev pub invariant-loop-i : goal.invariant-loop-i
invariant-loop-i g l = length l.objects.items ≡ l._i
