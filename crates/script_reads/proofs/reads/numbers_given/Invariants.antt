use Rattle.std.proofs.Common.{◌≡◌, take, true}
use Rattle.std.specs.List.{list_all}
use Rattle.int_format.specs.Ints.{is_number}
use Rattle.script_reads.proofs.reads.numbers_given.Given as goal

-- the numbers so far, each in its range
abbrev pub invariant-loop-number : goal.invariant-loop-number
invariant-loop-number l = record {
  same : l.given.items ≡ take l.number-index l.numbers;
  in_range : list_all is_number l.given.items ≡ true;
}
