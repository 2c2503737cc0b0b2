use Rattle.std.proofs.Common.{None, sym, ◌∙◌}
use Rattle.charmap_reader.proofs.Bodies.{charmap_is}
use Rattle.charmap_reader.proofs.charmap.read_charmap.Goals as goal

pub returns-in-None : goal.returns-in-None
returns-in-None c =
    let whole = charmap_is c.args.name.now c.args.text.now c.args.first_line c.in_ok-lines.lines None c.in_ok-lines.ensures.lines (sym c.in-None.is ∙ c.in_ok-lines.ensures.fault) in
    rw whole (rw c.text_start.ensures at c.read_lines.ensures)

pub returns : goal.returns
returns c =
    let whole = charmap_is c.args.name.now c.args.text.now c.args.first_line c.in_ok-lines.lines c.in_ok-lines.fault c.in_ok-lines.ensures.lines c.in_ok-lines.ensures.fault in
    rw (whole, c.in-Some.is) c.head_fault.ensures
