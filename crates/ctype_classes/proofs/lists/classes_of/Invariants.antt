use Rattle.std.proofs.Common.{◌≡◌, drop}
use Rattle.ctype_classes.specs.Lists.{after_lines, classes_of}
use Rattle.ctype_classes.proofs.lists.classes_of.Given as goal

abbrev pub invariant-loop-line : goal.invariant-loop-line
invariant-loop-line l = after_lines l.charset l.list l.classes (drop l.line-index l.line-items) ≡ classes_of l.charset l.list
