use Rattle.std.proofs.Common.{◌≡◌, drop}
use Rattle.library_parts.specs.Parts.{charsets_known}
use Rattle.library_parts.proofs.seen.charsets_known.Given as goal

abbrev pub invariant-loop-number : goal.invariant-loop-number
invariant-loop-number l = charsets_known l.charmaps 0 l.parts ≡ charsets_known l.charmaps l.number (drop l.number l.parts)
