use Rattle.std.proofs.Common.{◌≡◌, ◌++◌, replicate}
use Rattle.charset.proofs.numbering.next_number.Given as goal

abbrev pub invariant-loop : goal.invariant-loop
invariant-loop l = l.next.items ≡ l.initial.next.items ++ replicate l.counter 48
