use Rattle.std.proofs.Common.{◌≡◌, ◌+◌, ◌≤◌, drop, length}
use Rattle.category_store.specs.Joined.{numbered_after}
use Rattle.category_store.proofs.joined.add_names.Given as goal

abbrev pub invariant-loop-place : goal.invariant-loop-place
invariant-loop-place l = record {
  rest : numbered_after l.names (drop l.place l.others) ≡ numbered_after l.initial.names l.others;
  few : length l.names ≤ length l.initial.names + l.place;
}
