use Rattle.std.proofs.Common.{◌≡◌, ◌++◌, drop}
use Rattle.std.specs.List.{flat_map}
use Rattle.tool_check.specs.Summary.{section_row}
use Rattle.tool_check.proofs.summary.push_sections.Given as goal

-- the rows so far, and those of the sections that are left
abbrev pub invariant-loop-section : goal.invariant-loop-section
invariant-loop-section l =
    l.output.items ++ flat_map section_row (drop l.section-index l.sections) ≡ l.initial.output.items ++ flat_map section_row l.sections
