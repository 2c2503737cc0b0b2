use Rattle.std.proofs.Common.{◌≡◌, ◌+◌, ◌*◌, ◌≤◌, true, length, take, drop, ◌++◌}
use Rattle.std.specs.List.{list_all}
use Rattle.digit_groups.specs.Groups.{is_size, separators, separated}
use Rattle.digit_groups.proofs.write_groups.Given as goal

abbrev pub invariant-loop-size : goal.invariant-loop-size
invariant-loop-size l = record {
  sizes : list_all is_size l.rest ≡ true;
  within : l.left ≤ length l.digits;
  room : l.at ≤ length l.target;
  front : l.at + (length l.digits + separators l.sizes (length l.digits) * length l.sep) ≡ l.end + (l.left + separators l.rest l.left * length l.sep);
  back : separated l.digits l.sizes l.sep ++ drop l.end l.initial.target ≡ separated (take l.left l.digits) l.rest l.sep ++ drop l.at l.target;
}

abbrev pub decreases-loop-size : goal.decreases-loop-size
decreases-loop-size l = l.left
