use Rattle.std.proofs.Common.{◌≡◌, refl, sym, ap, ◌∙◌, length}
use Rattle.lc_base.specs.Lines.{lines_of}
use Rattle.tool_check.specs.Looks.{text_alone}
use Rattle.tool_check.proofs.LookLemmas.{alone_end, lines_of-alone, length-alone}
use Rattle.tool_check.proofs.looks.text_alone.Goals as goal

pub returns-clause-lines : goal.returns-clause-lines
returns-clause-lines c =
    let is : c.from_vec.result ≡ text_alone c.args.look c.args.text.now =
    c.from_vec.ensures ∙ sym (alone_end _ _ _ _ (c.in_default.ensures.«end».0 refl)) ∙ c.loop-line.invariant in
    ap lines_of is ∙ lines_of-alone c.args.look c.args.text.now

pub returns-clause-numbered : goal.returns-clause-numbered
returns-clause-numbered c =
    let is : c.from_vec.result ≡ text_alone c.args.look c.args.text.now =
    c.from_vec.ensures ∙ sym (alone_end _ _ _ _ (c.in_default.ensures.«end».0 refl)) ∙ c.loop-line.invariant in
    ap (λ xs. length (lines_of xs)) is ∙ length-alone c.args.look c.args.text.now
