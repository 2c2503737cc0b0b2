use Rattle.std.proofs.Common.{refl}
use Rattle.script_out.specs.Output.{entry_text}
use Rattle.script_out.proofs.ReplyParts.{added_whole}
use Rattle.script_out.proofs.output.push_entry.Goals as goal

pub returns : goal.returns
returns c = added_whole c.push_from.result c.push_from.new.out.items c.args.out.now.items _ (entry_text c.args.line.now) _ c.push_from.ensures c.put_entry-start.ensures.text refl
