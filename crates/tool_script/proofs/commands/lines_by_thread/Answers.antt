use Rattle.std.proofs.Common.{ap, ◌∙◌, map}
use Rattle.tool_script.specs.Commands.{lines_of_thread, written_seen}
use Rattle.tool_script.proofs.CommandLemmas.{one_more_thread}
use Rattle.tool_script.proofs.commands.lines_by_thread.Goals as goal

pub loop-thread-preserved : goal.loop-thread-preserved
loop-thread-preserved c =
    let those = c.in_ok-lines_of_thread.ensures ∙ ap (λ ws. lines_of_thread c.loop-thread.thread (map written_seen ws)) c.as_slice.ensures.value in
    one_more_thread c.loop-thread.thread (map written_seen c.in_ok-written.written.items) _ _ _ c.loop-thread.invariant those c.in_ok-push.ensures.items
