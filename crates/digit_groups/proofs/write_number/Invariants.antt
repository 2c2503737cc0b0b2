use Rattle.std.proofs.Common.{◌≡◌, ◌+◌, ◌*◌, ◌≤◌, true, length, drop, ◌++◌}
use Rattle.std.specs.List.{list_all}
use Rattle.digit_groups.specs.Digits.{last_digits}
use Rattle.digit_groups.specs.Groups.{is_size, separators, separated}
use Rattle.digit_groups.proofs.write_number.Given as goal

abbrev pub invariant-loop-size : goal.invariant-loop-size
invariant-loop-size l = record {
  sizes : list_all is_size l.rest ≡ true;
  room : l.at ≤ length l.target;
  front : l.at + (l.count + separators l.sizes l.count * length l.sep) ≡ l.end + (l.left + separators l.rest l.left * length l.sep);
  back : separated (last_digits l.count l.n) l.sizes l.sep ++ drop l.end l.initial.target ≡ separated (last_digits l.left l.number) l.rest l.sep ++ drop l.at l.target;
}

abbrev pub decreases-loop-size : goal.decreases-loop-size
decreases-loop-size l = l.left
