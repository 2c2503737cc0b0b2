use Rattle.std.proofs.Common.{◌≡◌, drop, map}
use Rattle.tool_reads.specs.Answers.{beside, each_of}
use Rattle.tool_reads.specs.Printed.{plain_line, text_in}
use Rattle.tool_reads.proofs.info.plain_lines.Given as goal

-- the lines so far, and those of the names that are left
abbrev pub invariant-loop-name : goal.invariant-loop-name
invariant-loop-name l = beside l.lines.items (each_of (plain_line (text_in l.locale)) (map (λ name. name.now) (drop l.name-index l.names))) ≡ each_of (plain_line (text_in l.locale)) (map (λ name. name.now) l.names)
