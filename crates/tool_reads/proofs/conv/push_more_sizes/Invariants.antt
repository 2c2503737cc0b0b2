use Rattle.std.proofs.Common.{◌≡◌, ◌++◌, drop}
use Rattle.tool_reads.specs.Printed.{more_sizes}
use Rattle.tool_reads.proofs.conv.push_more_sizes.Given as goal

-- what is written, and what is left
abbrev pub invariant-loop-size : goal.invariant-loop-size
invariant-loop-size l = l.lines.items ++ more_sizes (drop l.size-index l.sizes) ≡ l.initial.lines.items ++ more_sizes l.sizes
