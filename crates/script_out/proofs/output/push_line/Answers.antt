use Rattle.script_out.proofs.ReplyParts.{line_whole, line_joined}
use Rattle.script_out.proofs.output.push_line.Goals as goal

pub returns-then-thread-lt-LONG : goal.returns-then-thread-lt-LONG
returns-then-thread-lt-LONG c = line_whole _ c.args.threads.now c.args.line.now _ _ _ c.name_of-thread.ensures c.push_near.ensures

pub returns : goal.returns
returns c = line_joined _ c.args.threads.now c.args.line.now _ _ _ _ c.name_of-thread.ensures c.in_ok-push_caller.ensures c.push_outcome.ensures
