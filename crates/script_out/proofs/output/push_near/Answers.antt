use Rattle.std.proofs.Common.{◌++◌, drop, rules}
use Rattle.std.specs.Fmt.{decimal}
use Rattle.std.proofs.lemmas.List.{drop_all}
use Rattle.script_out.specs.Output.{newline, entry_text, reply_rest}
use Rattle.script_out.proofs.ReplyParts.{added_apart}
use Rattle.script_out.proofs.output.push_near.Goals as goal

pub returns-in_ok-push_from-in-None : goal.returns-in_ok-push_from-in-None
returns-in_ok-push_from-in-None c =
    let front = c.push_from-in-None.new.out.items in
    let piece = drop c.put_caller-start-in-None.result c.put_caller-start-in-None.new.buf in
    let none = drop_all 136 c.put_end.new.buf (search rules) in
    added_apart c.push_outcome.result c.push_outcome.new.out.items front c.args.out.now.items piece (decimal c.args.line.now.round) c.args.thread.now (entry_text c.args.line.now) (drop 136 c.put_end.new.buf) (reply_rest c.args.threads.now c.args.line.now.reply ++ newline) c.in_ok-push_from-in-None.ensures c.put_caller-start-in-None.ensures.text none c.push_outcome.ensures
