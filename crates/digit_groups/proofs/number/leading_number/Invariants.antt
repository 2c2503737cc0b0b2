use Rattle.std.proofs.Common.{◌≡◌, ◌≤◌, drop}
use Rattle.digit_groups.specs.Numbers.{further, number_behind}
use Rattle.digit_groups.proofs.number.leading_number.Given as goal

abbrev pub invariant-loop-byte : goal.invariant-loop-byte
invariant-loop-byte l = record {
  rest : number_behind 0 l.bytes ≡ further l.count (number_behind l.value (drop l.byte-index l.bytes));
  small : l.value ≤ 255;
  counted : l.count ≡ l.byte-index;
}
