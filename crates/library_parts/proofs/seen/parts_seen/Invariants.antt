use Rattle.std.proofs.Common.{◌≡◌, drop}
use Rattle.library_parts.specs.Parts.{at_first, parts_seen}
use Rattle.library_parts.proofs.seen.parts_seen.Given as goal

abbrev pub invariant-loop-number : goal.invariant-loop-number
invariant-loop-number l = parts_seen at_first 0 l.parts ≡ parts_seen l.seen l.number (drop l.number l.parts)
