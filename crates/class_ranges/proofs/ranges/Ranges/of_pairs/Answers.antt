use Rattle.std.proofs.Common.{rules, ℕ, ◌≡◌, ◌≤◌, ◌∙◌, All, sym}
use Rattle.std.proofs.lemmas.List.Sorted.{IsNonDecreasingBy-from_sort_by_key, list_any-IsPermutation, All-permutation}
use Rattle.std.specs.Int.{is_in_range}
use Rattle.class_ranges.specs.Ranges.{covers}
use Rattle.class_ranges.proofs.Orders.{same-ranges_of}
use Rattle.class_ranges.proofs.ranges.Ranges.of_pairs.Goals as goal

pub merged-requires-clause-forward : goal.merged-requires-clause-forward
merged-requires-clause-forward c =
    let forward : All (λ (range : ℕ × ℕ). range.0 ≤ range.1) c.in_ok-sorted.sorted.items = rw (c.in_ok-sorted.ensures.items) c.requires in
    rw (c.deref.ensures.value) (All-permutation (λ (range : ℕ × ℕ). range.0 ≤ range.1) _ _ c.sort_unstable_by_key.ensures.permutation forward)

pub merged-requires-clause-sorted : goal.merged-requires-clause-sorted
merged-requires-clause-sorted c =
    rw (c.deref.ensures.value) (IsNonDecreasingBy-from_sort_by_key (λ (range : ℕ × ℕ). range.0) _ c.sort_unstable_by_key.ensures.sorted (λ a r q k. search rules))

pub returns-clause-ranges : goal.returns-clause-ranges
returns-clause-ranges c =
    same-ranges_of c.in_ok-ranges.ranges.items c.args.pairs.now c.in_ok-ranges.ensures.apart c.requires (λ w.
    let same : covers c.in_ok-sorted.sorted.items w ≡ covers c.deref.result.now w = rw (c.deref.ensures.value) (list_any-IsPermutation (λ (range : ℕ × ℕ). is_in_range range.0 range.1 w) _ _ c.sort_unstable_by_key.ensures.permutation) in
    c.in_ok-ranges.ensures.values w ∙ sym same ∙ rw (c.in_ok-sorted.ensures.items))

pub returns-clause-values : goal.returns-clause-values
returns-clause-values c = λ w.
    let same : covers c.in_ok-sorted.sorted.items w ≡ covers c.deref.result.now w = rw (c.deref.ensures.value) (list_any-IsPermutation (λ (range : ℕ × ℕ). is_in_range range.0 range.1 w) _ _ c.sort_unstable_by_key.ensures.permutation) in
    c.in_ok-ranges.ensures.values w ∙ sym same ∙ rw (c.in_ok-sorted.ensures.items)
