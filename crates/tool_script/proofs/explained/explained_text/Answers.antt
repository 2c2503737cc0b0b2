use Rattle.std.proofs.Common.{refl, ap, ◌∙◌, map}
use Rattle.tool_script.specs.Commands.{lines_seen}
use Rattle.tool_script.proofs.ExplainedLemmas.{explained_whole}
use Rattle.tool_script.proofs.explained.explained_text.Goals as goal

pub returns : goal.returns
returns c =
    explained_whole c.args.threads.now c.args.commands.now c.args.text.now c.args.lines.now _ _ _ _ _ _ _ _ _
    c.new-out.ensures.items c.as_slice.ensures c.as_slice-3.ensures c.len.ensures
    (ap (map lines_seen) c.as_slice-2.ensures.value ∙ c.in_ok-written.ensures) refl c.in_ok-push_lines.ensures c.in_ok-push_all_counts.ensures c.from_vec.ensures
