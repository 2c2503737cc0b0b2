use Rattle.std.proofs.Common.{refl, arith, ◌≤◌, ℕ}
use Rattle.std.proofs.lemmas.List.Elements.{All-push}
use Rattle.charset.proofs.NameLemmas.{entries_short}
use Rattle.charset.proofs.ValueLemmas.{ranges_more, ranges_all}
use Rattle.charset.proofs.names.CharacterNames.ranges.Goals as goal

pub loop-span-preserved : goal.loop-span-preserved
loop-span-preserved c = record {
  covered = λ w. rw (c.in_ok-push.ensures.items) (ranges_more c.as_slice-spans.result.now c.loop-span.span-index _ _ c.loop-span.ranges.items w c.loop-span-test.true refl (c.loop-span.invariant.covered w));
  forward = rw (c.in_ok-push.ensures.items) (All-push (λ (range : ℕ × ℕ). range.0 ≤ range.1) c.loop-span.ranges.items _ c.loop-span.invariant.forward (omega arith));
}

pub returns-clause-covered : goal.returns-clause-covered
returns-clause-covered c = λ w.
    rw (← c.self.view_is, ← c.as_slice-spans.ensures)
    (ranges_all c.self.inside.fronts c.as_slice-spans.result.now c.loop-span.span-index c.loop-span.ranges.items w c.loop-span-test.false (c.loop-span.invariant.covered w))

pub returns-clause-short : goal.returns-clause-short
returns-clause-short c = rw (← c.self.view_is) (entries_short c.self.inside.fronts c.self.inside.spans)
