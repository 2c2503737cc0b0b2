use Rattle.std.proofs.Common.{◌≡◌, ◌++◌, drop}
use Rattle.tool_reads.specs.Printed.{text_lines}
use Rattle.tool_reads.proofs.conv.push_texts.Given as goal

-- what is written, and what is left
abbrev pub invariant-loop-name : goal.invariant-loop-name
invariant-loop-name l = l.lines.items ++ text_lines (drop l.name-index l.fields) ≡ l.initial.lines.items ++ text_lines l.fields
