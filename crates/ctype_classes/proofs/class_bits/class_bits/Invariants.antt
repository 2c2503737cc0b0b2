use Rattle.std.proofs.Common.{◌≡◌, ℕ, ◌<◌, ◌≤◌}
use Rattle.std.specs.Int.{bit_at}
use Rattle.class_ranges.specs.Pages.{has_bit}
use Rattle.ctype_classes.specs.Classes.{has_numbered}
use Rattle.ctype_classes.proofs.class_bits.class_bits.Given as goal

-- the bits below are those of the classes, and the others are 0
abbrev pub invariant-loop-number : goal.invariant-loop-number
invariant-loop-number l = record {
  done : (j : ℕ) → j < l.number → has_bit l.bits j ≡ has_numbered l.classes j l.w;
  empty : (j : ℕ) → l.number ≤ j → bit_at l.bits j ≡ 0;
}
