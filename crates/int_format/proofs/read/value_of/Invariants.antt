use Rattle.std.proofs.Common.{◌≡◌, ℕ, ◌-◌, ◌^◌, ◌<◌, ◌≤◌}
use Rattle.digit_groups.specs.Groups.{sizes_used, separated}
use Rattle.digit_groups.specs.Digits.{last_digits}
use Rattle.int_format.proofs.ReadLemmas.{IsLeft}
use Rattle.int_format.proofs.read.value_of.Given as goal

-- a number has this text where its last digits have what is left of it, and its first ones are the value
abbrev pub invariant-loop-left : goal.invariant-loop-left
invariant-loop-left l = record {
  on : (x : ℕ) → x < 10 ^ l.count → l.body ≡ separated (last_digits l.count x) (sizes_used l.sizes) l.sep → IsLeft (sizes_used l.sizes) l.sep x l.left l.value l.rest;
  back : (x : ℕ) → IsLeft (sizes_used l.sizes) l.sep x l.left l.value l.rest → l.body ≡ separated (last_digits l.count x) (sizes_used l.sizes) l.sep;
  small : l.value < 10 ^ (l.count - l.left);
  within : l.left ≤ l.count;
}

abbrev pub decreases-loop-left : goal.decreases-loop-left
decreases-loop-left l = l.left
