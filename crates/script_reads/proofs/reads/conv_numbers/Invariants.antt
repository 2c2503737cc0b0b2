use Rattle.std.proofs.Common.{◌≡◌, take}
use Rattle.langinfo.specs.Lent.{owned_numbers}
use Rattle.script_reads.specs.Reads.{conv_numbers}
use Rattle.script_reads.proofs.reads.conv_numbers.Given as goal

-- the numbers so far
abbrev pub invariant-loop-number : goal.invariant-loop-number
invariant-loop-number l = l.block.items ≡ conv_numbers (owned_numbers (take l.number-index l.fields))
