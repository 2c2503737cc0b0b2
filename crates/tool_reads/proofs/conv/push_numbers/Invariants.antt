use Rattle.std.proofs.Common.{◌≡◌, ◌++◌, drop}
use Rattle.tool_reads.specs.Printed.{number_lines}
use Rattle.tool_reads.proofs.conv.push_numbers.Given as goal

-- what is written, and what is left
abbrev pub invariant-loop-name : goal.invariant-loop-name
invariant-loop-name l = l.lines.items ++ number_lines (drop l.name-index l.fields) ≡ l.initial.lines.items ++ number_lines l.fields
