use Rattle.std.proofs.Common.{◌≡◌, length}
use Rattle.std.specs.Str.{bytes_eq}
use Rattle.lc_base.proofs.words.are_same.Given as goal

abbrev pub invariant-loop-word : goal.invariant-loop-word
invariant-loop-word l = bytes_eq l.word l.name ≡ bytes_eq l.initial.word l.initial.name

abbrev pub decreases-loop-word : goal.decreases-loop-word
decreases-loop-word l = length l.word
