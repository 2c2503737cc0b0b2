use Rattle.std.proofs.Common.{◌≡◌, drop}
use Rattle.locale_sources.specs.Sections.{section_of}
use Rattle.locale_sources.proofs.sections.section_of.Given as goal

abbrev pub invariant-loop-section : goal.invariant-loop-section
invariant-loop-section l = section_of l.category l.sections ≡ section_of l.category (drop l.section-index l.sections)
