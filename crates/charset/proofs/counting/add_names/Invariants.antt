use Rattle.std.proofs.Common.{◌≡◌, ◌+◌, ◌-◌, ◌≤◌, Some, length, map}
use Rattle.std.specs.List.{range_with_len}
use Rattle.std.specs.Str.Parse.{AllDigits}
use Rattle.charset.specs.Entries.{added}
use Rattle.charset.specs.CharacterNames.{valued_after}
use Rattle.charset.specs.Numbering.{digits, number, padded, stem}
use Rattle.charset.proofs.counting.add_names.Given as goal

abbrev pub invariant-loop-digits : goal.invariant-loop-digits
invariant-loop-digits l = record {
  upto : l.done ≤ l.more;
  stem : l.stem ≡ stem l.first;
  digits : l.digits.items ≡ padded (length (digits l.first)) (number l.first + l.done);
  all : AllDigits 10 l.digits.items;
  added : added l.fn.names (map (valued_after l.first l.value) (range_with_len 0 l.done)) ≡ Some l.names;
  count : length l.names ≡ length l.fn.names + l.done;
}

abbrev pub decreases-loop-digits : goal.decreases-loop-digits
decreases-loop-digits l = l.more - l.done
