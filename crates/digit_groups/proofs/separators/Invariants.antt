use Rattle.std.proofs.Common.{◌≡◌, ◌+◌, ◌≤◌, true}
use Rattle.std.specs.List.{list_all}
use Rattle.digit_groups.specs.Groups.{is_size, separators}
use Rattle.digit_groups.proofs.separators.Given as goal

abbrev pub invariant-loop-size : goal.invariant-loop-size
invariant-loop-size l = record {
  sizes : list_all is_size l.rest ≡ true;
  counted : l.count + separators l.rest l.left ≡ separators l.sizes l.n;
  few : l.count + l.left ≤ l.n;
}

abbrev pub decreases-loop-size : goal.decreases-loop-size
decreases-loop-size l = l.left
