use Rattle.std.proofs.Common.{◌≡◌, ◌≤◌, ℕ, take, All}
use Rattle.std.specs.List.{list_any}
use Rattle.class_ranges.specs.Ranges.{covers}
use Rattle.charset.proofs.ValueLemmas.{has_in}
use Rattle.charset.proofs.names.CharacterNames.ranges.Given as goal

abbrev pub invariant-loop-span : goal.invariant-loop-span
invariant-loop-span l = record {
  covered : (w : ℕ) → covers l.ranges.items w ≡ list_any (has_in w) (take l.span-index l.spans);
  forward : All (λ (range : ℕ × ℕ). range.0 ≤ range.1) l.ranges.items;
}
