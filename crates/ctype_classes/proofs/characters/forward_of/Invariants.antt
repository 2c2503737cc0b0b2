use Rattle.std.proofs.Common.{◌≡◌, ℕ, ◌≤◌, All, take}
use Rattle.class_ranges.specs.Ranges.{covers}
use Rattle.ctype_classes.proofs.characters.forward_of.Given as goal

abbrev pub invariant-loop-range : goal.invariant-loop-range
invariant-loop-range l = record {
  forward : All (λ (range : ℕ × ℕ). range.0 ≤ range.1) l.forward.items;
  values : (w : ℕ) → covers l.forward.items w ≡ covers (take l.range-index l.ranges) w;
}
