use Rattle.std.proofs.Common.{◌<◌, length, arith}
use Rattle.src_lines.specs.Rows.{line_of}
use Rattle.src_lines.proofs.Itemizing.{items_next, items_end}
use Rattle.src_lines.proofs.atom.next_atom.Goals as goal

pub returns-then-at-row : goal.returns-then-at-row
returns-then-at-row c = items_end (line_of c.args.row.now) c.args.at (omega arith)

pub returns : goal.returns
returns c =
    let l = line_of c.args.row.now in
    let inside : c.args.at < length l.bytes = omega arith in
    let atom_is = rw c.split_at.ensures.back at c.in_ok-atom.ensures.is in (
      items_next l c.args.at c.in_ok-atom.len c.in_ok-atom.atom inside c.in_ok-atom.ensures.some atom_is,
      omega (arith, c.in_ok-atom.ensures.some),
      omega (arith, c.in_ok-atom.ensures.within, c.split_at.ensures.back_len),
    )
