use Rattle.std.proofs.Common.{◌≡◌, drop, map}
use Rattle.tool_reads.specs.Answers.{beside, each_of}
use Rattle.tool_reads.specs.Printed.{named_line, text_in}
use Rattle.tool_reads.proofs.info.named_lines.Given as goal

-- the lines so far, and those of the rows that are left
abbrev pub invariant-loop-row : goal.invariant-loop-row
invariant-loop-row l = beside l.lines.items (each_of (named_line (text_in l.locale)) (map (λ row. row.0.now) (drop l.row-index l.rows))) ≡ each_of (named_line (text_in l.locale)) (map (λ row. row.0.now) l.rows)
