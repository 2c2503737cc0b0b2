use Rattle.std.proofs.Common.{rules}
use Rattle.tool_reads.specs.Printed.{class_line}
use Rattle.tool_reads.proofs.AnswerLemmas.{line_step}
use Rattle.tool_reads.proofs.characters.class_lines.Goals as goal

pub loop-word-preserved : goal.loop-word-preserved
loop-word-preserved c = line_step (λ w. w.now) (class_line c.args.ctype.now c.args.charset.now c.args.class.now) c.args.words.now c.loop-word.word-index _ c.loop-word.lines.items c.push_class.new.lines.items _ (search rules) c.in_ok-push_class.ensures.added c.loop-word.invariant
