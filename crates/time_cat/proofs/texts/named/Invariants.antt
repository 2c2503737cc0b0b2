use Rattle.std.proofs.Common.{◌≡◌}
use Rattle.time_cat.proofs.texts.named.Given as goal

abbrev pub invariant-loop-text : goal.invariant-loop-text
invariant-loop-text l = l.names.items ≡ l.yielded
