use Rattle.std.proofs.Common.{sym, ◌∙◌}
use Rattle.script_out.proofs.PlainTexts.{set_stays}
use Rattle.script_out.proofs.quoting.is_plain.Goals as goal

pub returns : goal.returns
returns c = λ set. set_stays c.args.c (sym c.is_set.ensures ∙ set)
