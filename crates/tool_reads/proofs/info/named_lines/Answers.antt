use Rattle.std.proofs.Common.{rules}
use Rattle.tool_reads.proofs.AnswerLemmas.{line_step}
use Rattle.tool_reads.proofs.info.named_lines.Goals as goal

pub loop-row-preserved : goal.loop-row-preserved
loop-row-preserved c = line_step (λ w. w.0.now) _ c.args.rows.now c.loop-row.row-index _ c.loop-row.lines.items c.push_named.new.lines.items _ (search rules) c.in_ok-push_named.ensures.added c.loop-row.invariant
