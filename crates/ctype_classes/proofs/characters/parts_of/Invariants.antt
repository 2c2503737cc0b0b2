use Rattle.std.proofs.Common.{◌≡◌, ℕ, ◌≤◌, ◌&&◌, All, take}
use Rattle.class_ranges.specs.Ranges.{covers}
use Rattle.charset.specs.CodedSet.{has}
use Rattle.ctype_classes.proofs.characters.parts_of.Given as goal

abbrev pub invariant-loop-range : goal.invariant-loop-range
invariant-loop-range l = record {
  forward : All (λ (part : ℕ × ℕ). part.0 ≤ part.1) l.parts.items;
  values : (w : ℕ) → covers l.parts.items w ≡ (has l.charset w && covers (take l.range-index l.ranges) w);
}
