use Rattle.std.proofs.Common.{arith}
use Rattle.tool_script.proofs.ExplainedLemmas.{bare_added}
use Rattle.tool_script.proofs.explained.push_bare_line.Goals as goal

pub returns : goal.returns
returns c = bare_added c.args.threads.now c.args.line.now _ _ _ _ c.in_ok-push_line.ensures (omega (arith, c.push_line.new.out.ok.0)) c.pop-newline.ensures.rest
