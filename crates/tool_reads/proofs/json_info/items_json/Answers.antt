use Rattle.std.proofs.Common.{rules, ◌∙◌}
use Rattle.tool_reads.proofs.MemberLemmas.{member_step}
use Rattle.tool_reads.proofs.json_info.items_json.Goals as goal

pub loop-row-preserved : goal.loop-row-preserved
loop-row-preserved c = record {
  before = c.push_item.ensures.before ∙ c.loop-row.invariant.before;
  tokens = member_step (λ w. w.0.now) _ _ c.args.rows.now c.loop-row.row-index _ c.loop-row.json.tokens c.push_item.new.json.tokens _ (search rules) c.in_ok-push_item.ensures.added c.loop-row.invariant.tokens;
}
