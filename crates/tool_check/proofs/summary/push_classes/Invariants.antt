use Rattle.std.proofs.Common.{◌≡◌, ◌++◌, map, drop}
use Rattle.std.specs.List.{flat_map}
use Rattle.tool_check.specs.Summary.{class_row}
use Rattle.tool_check.proofs.summary.push_classes.Given as goal

-- the rows so far, and those of the classes that are left
abbrev pub invariant-loop-class : goal.invariant-loop-class
invariant-loop-class l =
    l.output.items ++ flat_map (class_row l.charset l.ctype.classes) (map (λ name. name.now) (drop l.class-index l.classes))
    ≡ l.initial.output.items ++ flat_map (class_row l.charset l.ctype.classes) (map (λ name. name.now) l.classes)
