use Rattle.std.proofs.Common.{◌≡◌, ◌+◌, drop}
use Rattle.src_lines.specs.Cells.{leading}
use Rattle.src_lines.proofs.cells.name_len.Given as goal

abbrev pub invariant-loop-i : goal.invariant-loop-i
invariant-loop-i l = l.i + leading (drop l.i l.marks) ≡ leading l.marks
