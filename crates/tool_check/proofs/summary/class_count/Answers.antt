use Rattle.std.proofs.Common.{sym, ◌∙◌}
use Rattle.tool_check.proofs.SummaryLemmas.{class_counted, none_counted}
use Rattle.tool_check.proofs.summary.class_count.Goals as goal

pub returns-in-Some : goal.returns-in-Some
returns-in-Some c = c.numbered_count.ensures ∙ class_counted c.args.charset.now c.args.ctype.now.classes c.args.class.now c.in-Some.number c.in-Some.ensures.same

pub returns-in-None : goal.returns-in-None
returns-in-None c = sym (none_counted c.args.charset.now c.args.ctype.now.classes c.args.class.now (sym c.in-None.ensures.number))
