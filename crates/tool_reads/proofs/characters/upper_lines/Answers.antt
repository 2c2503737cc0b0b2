use Rattle.std.proofs.Common.{rules}
use Rattle.tool_reads.specs.Printed.{case_line}
use Rattle.tool_reads.proofs.AnswerLemmas.{line_step}
use Rattle.tool_reads.proofs.characters.upper_lines.Goals as goal

pub loop-word-preserved : goal.loop-word-preserved
loop-word-preserved c = line_step (λ w. w.now) (case_line c.args.charset.now c.args.ctype.now.upper) c.args.words.now c.loop-word.word-index _ c.loop-word.lines.items c.push_upper.new.lines.items _ (search rules) c.in_ok-push_upper.ensures.added c.loop-word.invariant
