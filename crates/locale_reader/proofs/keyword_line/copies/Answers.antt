use Rattle.std.proofs.Common.{sym, ◌∙◌, arith}
use Rattle.src_lines.proofs.Positions.{part_more}
use Rattle.locale_reader.specs.Section.{copies_category}
use Rattle.locale_reader.proofs.LineSteps.{any_first, any_later}
use Rattle.locale_reader.proofs.keyword_line.copies.Goals as goal

pub returns-then-copies_category : goal.returns-then-copies_category
returns-then-copies_category c =
    let more = part_more c.args.lines.now c.args.start c.args.«end» c.loop-i.i _ (omega arith) (omega arith) c.requires.within in
    sym (any_first copies_category _ _ _ more (sym c.copies_category.ensures ∙ c.if-copies_category.true)) ∙ c.loop-i.invariant

pub loop-i-preserved : goal.loop-i-preserved
loop-i-preserved c =
    let more = part_more c.args.lines.now c.args.start c.args.«end» c.loop-i.i _ (omega arith) (omega arith) c.requires.within in
    sym (any_later copies_category _ _ _ more (sym c.copies_category.ensures ∙ c.if-copies_category.false)) ∙ c.loop-i.invariant
