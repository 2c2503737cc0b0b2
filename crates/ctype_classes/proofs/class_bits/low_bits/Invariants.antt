use Rattle.std.proofs.Common.{◌≡◌, length}
use Rattle.ctype_classes.specs.Classes.{AreLowBits}
use Rattle.ctype_classes.proofs.class_bits.low_bits.Given as goal

-- the words so far
abbrev pub invariant-loop-w : goal.invariant-loop-w
invariant-loop-w l = (length l.words.items ≡ l.w) × AreLowBits l.classes l.words.items
