use Rattle.std.proofs.Common.{◌≡◌, ◌≤◌, ◌-◌, [], length, map, drop}
use Rattle.tool_decimals.specs.Formats.{text_behind}
use Rattle.tool_decimals.proofs.format.text_of.Given as goal

-- the text so far, and what the rest of the format adds to it
abbrev pub invariant-loop-at : goal.invariant-loop-at
invariant-loop-at l = record {
  so_far : text_behind l.numeric l.out.items 0 l.at (drop l.at l.format) (map (λ w. w.now) l.left) ≡ text_behind l.numeric [] 0 0 l.format (map (λ w. w.now) l.words);
  within : l.at ≤ length l.format;
}

abbrev pub decreases-loop-at : goal.decreases-loop-at
decreases-loop-at l = length l.format - l.at
