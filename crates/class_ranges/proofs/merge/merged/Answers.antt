use Rattle.std.proofs.Common.{arith, ◌<◌, ◌≤◌, length, refl, get_or}
use Rattle.std.proofs.lemmas.Bool.Decides.{nat_tests}
use Rattle.std.proofs.lemmas.List.{get_or_default}
use Rattle.class_ranges.proofs.Joining.{joined_none, joined_apart, joined_near}
use Rattle.class_ranges.proofs.merge.merged.Goals as goal
use Rattle.class_ranges.proofs.merge.merged.Goals.{then-saturating_sub-gt1+in_ok-push, else-saturating_sub-gt1}

pub loop-range-init : goal.loop-range-init
loop-range-init c =
    let some : 0 < length c.args.sorted.now = grind (arith, nat_tests) in
    rw (c.new-ranges.ensures.items)
    (joined_none (get_or c.args.sorted.now 0 (0, 0)) c.args.sorted.now (c.requires.forward 0 (0, 0) some)
    (λ k d within. rw (get_or_default c.args.sorted.now 0 (0, 0) d some) (c.requires.sorted 0 k d (omega arith) within)))

pub loop-range-preserved : goal.loop-range-preserved
loop-range-preserved c =
    let parts = c.args.sorted.now in
    let here = get_or parts c.loop-range.range-index (0, 0) in
    let start = get_or parts 0 (0, 0) in
    let whole : here.0 ≤ here.1 = c.requires.forward c.loop-range.range-index (0, 0) c.loop-range-test.true in
    elim c.if-saturating_sub-gt1.branch [
      | then-saturating_sub-gt1+in_ok-push w ↦
          rw (w.ranges-is, w.first-is, w.last-is, w.in_ok-push.ensures.items)
          (joined_apart start c.loop-range.ranges.items c.loop-range.first c.loop-range.last parts c.loop-range.range-index here (0, 0) c.requires.sorted c.loop-range-test.true refl whole (omega arith) c.loop-range.invariant)
      | else-saturating_sub-gt1 w ↦
          rw (w.ranges-is, w.first-is, w.last-is, w.max-last.ensures)
          (joined_near start c.loop-range.ranges.items c.loop-range.first c.loop-range.last parts c.loop-range.range-index here (0, 0) c.requires.sorted c.loop-range-test.true refl whole (omega arith) c.loop-range.invariant)
    ]
