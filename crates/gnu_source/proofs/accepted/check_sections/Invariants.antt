use Rattle.std.proofs.Common.{◌≡◌, drop}
use Rattle.gnu_source.specs.Standard.{sections_compiled}
use Rattle.gnu_source.proofs.accepted.check_sections.Given as goal

-- no section so far has a fault
abbrev pub invariant-loop-section : goal.invariant-loop-section
invariant-loop-section l = sections_compiled (drop l.section-index l.sections) ≡ sections_compiled l.sections
