use Rattle.std.proofs.Common.{rules}
use Rattle.tool_reads.proofs.AnswerLemmas.{line_step}
use Rattle.tool_reads.proofs.info.plain_lines.Goals as goal

pub loop-name-preserved : goal.loop-name-preserved
loop-name-preserved c = line_step (λ w. w.now) _ c.args.names.now c.loop-name.name-index _ c.loop-name.lines.items c.push_plain.new.lines.items _ (search rules) c.in_ok-push_plain.ensures.added c.loop-name.invariant
