use Rattle.std.proofs.Common.{refl, sym, ◌∙◌}
use Rattle.lc_base.proofs.LineLemmas.{cuts_ended, cuts_last}
use Rattle.lc_base.proofs.lines.next_line.Goals as goal

pub returns-in-Some-clause-line : goal.returns-in-Some-clause-line
returns-in-Some-clause-line c = cuts_ended c.args.text.now c.in-Some.line.now c.in-Some.rest.now c.in-Some.ensures.line

pub returns-in-None-clause-line : goal.returns-in-None-clause-line
returns-in-None-clause-line c = cuts_last c.args.text.now (sym c.is_empty.ensures ∙ c.if-is_empty.false) (c.in-None.ensures.none refl)
