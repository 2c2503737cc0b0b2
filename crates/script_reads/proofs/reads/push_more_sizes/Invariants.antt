use Rattle.std.proofs.Common.{◌≡◌, ◌++◌, drop}
use Rattle.script_reads.specs.Reads.{more_sizes}
use Rattle.script_reads.proofs.reads.push_more_sizes.Given as goal

-- what is written, and what is left
abbrev pub invariant-loop-size : goal.invariant-loop-size
invariant-loop-size l = l.out.items ++ more_sizes (drop l.size-index l.sizes) ≡ l.initial.out.items ++ more_sizes l.sizes
