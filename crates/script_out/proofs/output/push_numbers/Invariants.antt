use Rattle.std.proofs.Common.{◌≡◌, ◌++◌, drop}
use Rattle.script_out.specs.Output.{numbers_text}
use Rattle.script_out.proofs.output.push_numbers.Given as goal

-- what is written, and what is left
abbrev pub invariant-loop-n : goal.invariant-loop-n
invariant-loop-n l = l.out.items ++ numbers_text (drop l.n-index l.numbers) ≡ l.initial.out.items ++ numbers_text l.numbers
