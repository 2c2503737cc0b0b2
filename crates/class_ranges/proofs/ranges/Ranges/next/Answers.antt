use Rattle.std.proofs.Common.{rules, arith, ℕ, ◌≡◌, get_or, ltb}
use Rattle.std.proofs.lemmas.List.Sorted.{IsPartitionPoint-from_clause, IsPartitionedBy-ltb}
use Rattle.class_ranges.proofs.Joining.{none_next, some_next, ends_rise}
use Rattle.class_ranges.proofs.ranges.Ranges.next.Goals as goal

pub returns-then-at-len : goal.returns-then-at-len
returns-then-at-len c =
    let parted = IsPartitionedBy-ltb (λ (range : ℕ × ℕ). range.1) c.deref.result.now c.args.w (rw (c.deref.ensures.value) (ends_rise _ c.self.invariant)) in
    let point = IsPartitionPoint-from_clause (λ (range : ℕ × ℕ). ltb range.1 c.args.w) c.deref.result.now _ c.partition_point-at.ensures.partitioned parted (λ a r q k. search rules) in
    rw (← c.self.view_is, ← c.deref.ensures.value) (none_next c.deref.result.now c.args.w c.partition_point-at.result point (omega arith))

pub returns : goal.returns
returns c =
    let parted = IsPartitionedBy-ltb (λ (range : ℕ × ℕ). range.1) c.deref.result.now c.args.w (rw (c.deref.ensures.value) (ends_rise _ c.self.invariant)) in
    let point = IsPartitionPoint-from_clause (λ (range : ℕ × ℕ). ltb range.1 c.args.w) c.deref.result.now _ c.partition_point-at.ensures.partitioned parted (λ a r q k. search rules) in
    let at : c.index.result.now ≡ get_or c.deref.result.now c.partition_point-at.result c.index.result.now = rw (c.deref.ensures.value) c.index.ensures in
    rw (c.max.ensures, ← c.self.view_is, ← c.deref.ensures.value)
    (some_next c.deref.result.now c.args.w c.partition_point-at.result c.index.result.now (rw (c.deref.ensures.value) c.self.invariant) point (omega arith) at)
