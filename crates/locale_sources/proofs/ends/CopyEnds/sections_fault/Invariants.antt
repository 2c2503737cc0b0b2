use Rattle.std.proofs.Common.{◌≡◌, drop}
use Rattle.locale_sources.specs.Copies.{sections_fault}
use Rattle.locale_sources.proofs.ends.CopyEnds.sections_fault.Given as goal

abbrev pub invariant-loop-section : goal.invariant-loop-section
invariant-loop-section l = sections_fault l.self l.number l.sections ≡ sections_fault l.self l.number (drop l.section-index l.sections)
