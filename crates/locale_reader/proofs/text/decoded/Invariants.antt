use Rattle.std.proofs.Common.{◌≡◌, length, Some}
use Rattle.locale_reader.specs.Values.{joined, decoded}
use Rattle.locale_reader.proofs.text.decoded.Given as goal

abbrev pub invariant-loop-piece : goal.invariant-loop-piece
invariant-loop-piece l = joined (Some l.bytes.items) (decoded l.charset l.walk) ≡ decoded l.charset l.pieces

abbrev pub decreases-loop-piece : goal.decreases-loop-piece
decreases-loop-piece l = length l.walk
