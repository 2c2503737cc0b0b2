use Rattle.std.proofs.Common.{length, sym, ◌∙◌, arith}
use Rattle.src_lines.specs.Rows.{line_of}
use Rattle.src_lines.specs.Places.{place_at}
use Rattle.src_lines.proofs.Itemizing.{items_end}
use Rattle.src_lines.proofs.Operands.{after_none, after_some}
use Rattle.src_lines.proofs.operand.operands_after.Goals as goal

pub returns-then-start-row : goal.returns-then-start-row
returns-then-start-row c =
    let over = items_end (line_of c.args.row.now) c.skip_blanks-start.result (omega arith) in
    rw c.new.ensures.items (after_none _ _ (sym c.skip_blanks-start.ensures.is ∙ over))

pub returns : goal.returns
returns c =
    let l = line_of c.args.row.now in
    let some = after_some l c.skip_blanks-start.result (place_at l (length l.bytes)) (omega (arith, c.skip_blanks-start.ensures.within)) in
    rw (← c.skip_blanks-start.ensures.is, some) c.operands_at.ensures
