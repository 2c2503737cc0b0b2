use Rattle.std.proofs.Common.{sym, ◌∙◌, add-one}
use Rattle.lc_base.proofs.LineLemmas.{ends_there, no_newline}
use Rattle.lc_base.proofs.lines.ended_line.Goals as goal

pub returns-in_err-at-clause-none : goal.returns-in_err-at-clause-none
returns-in_err-at-clause-none c = λ none. no_newline c.args.text.now (sym c.newline_at.ensures ∙ c.in_err-at.was)

pub returns-clause-line : goal.returns-clause-line
returns-clause-line c =
    rw (c.split_at.ensures.front, c.split_at-2.ensures.back, add-one) (ends_there c.args.text.now c.in_ok-at.at (sym c.newline_at.ensures ∙ c.in_ok-at.was))
