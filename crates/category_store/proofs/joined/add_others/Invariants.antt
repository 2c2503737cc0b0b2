use Rattle.std.proofs.Common.{◌≡◌, drop}
use Rattle.category_store.specs.Joined.{with_others, moved}
use Rattle.category_store.proofs.joined.add_others.Given as goal

abbrev pub invariant-loop-place : goal.invariant-loop-place
invariant-loop-place l = with_others l.named (moved l.count (drop l.place l.others)) ≡ with_others l.initial.named (moved l.count l.others)
