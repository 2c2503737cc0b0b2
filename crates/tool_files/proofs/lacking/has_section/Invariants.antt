use Rattle.std.proofs.Common.{◌≡◌, drop}
use Rattle.tool_files.specs.Lacking.{has_section}
use Rattle.tool_files.proofs.lacking.has_section.Given as goal

-- none so far is the category
abbrev pub invariant-loop-section : goal.invariant-loop-section
invariant-loop-section l = has_section l.category (drop l.section-index l.sections) ≡ has_section l.category l.sections
