use Rattle.std.proofs.Common.{◌≡◌, drop, map}
use Rattle.ctype_classes.specs.Rows.{automatic_row}
use Rattle.ctype_classes.specs.Classes.{with_classes}
use Rattle.ctype_classes.proofs.classes.with_classes.Given as goal

abbrev pub invariant-loop-row : goal.invariant-loop-row
invariant-loop-row l = with_classes l.charset l.list l.classes (map automatic_row (drop l.row-index l.rows)) ≡ with_classes l.charset l.list l.fn.classes (map automatic_row l.rows)
