use Rattle.std.proofs.Common.{◌≡◌, length}
use Rattle.std.specs.List.{slice_split}
use Rattle.script_words.specs.Words.{bits_with, is_comma}
use Rattle.script_words.proofs.word.named_bits.Given as goal

abbrev pub invariant-loop-name : goal.invariant-loop-name
invariant-loop-name l = bits_with l.bits (slice_split is_comma l.rest) ≡ bits_with 0 (slice_split is_comma l.names)

abbrev pub decreases-loop-name : goal.decreases-loop-name
decreases-loop-name l = length l.rest
