use Rattle.std.proofs.Common.{◌≡◌, drop, map}
use Rattle.tool_reads.specs.Answers.{beside, each_of}
use Rattle.tool_reads.specs.Printed.{case_line}
use Rattle.tool_reads.proofs.characters.lower_lines.Given as goal

-- the lines so far, and those of the words that are left
abbrev pub invariant-loop-word : goal.invariant-loop-word
invariant-loop-word l = beside l.lines.items (each_of (case_line l.charset l.ctype.lower) (map (λ w. w.now) (drop l.word-index l.words))) ≡ each_of (case_line l.charset l.ctype.lower) (map (λ w. w.now) l.words)
