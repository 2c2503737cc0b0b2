use Rattle.std.proofs.Common.{take}
use Rattle.ctype_classes.specs.FirstLines.{AreFirstLines}
use Rattle.ctype_classes.proofs.first_lines.first_lines.Given as goal

abbrev pub invariant-loop-entry : goal.invariant-loop-entry
invariant-loop-entry l = AreFirstLines (take l.entry-index l.entries) l.lines
