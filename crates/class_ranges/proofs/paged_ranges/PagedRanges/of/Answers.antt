use Rattle.std.proofs.Common.{ℕ, ◌*◌, ◌≤◌, Bool, [], ◌∷◌, ◌++◌, length-append, sym, subst, arith}
use Rattle.class_ranges.specs.Ranges.{covers}
use Rattle.class_ranges.specs.declared.alike.Stretch.{Stretch}
use Rattle.class_ranges.specs.Pages.{IsAlike, IsPaged}
use Rattle.class_ranges.proofs.Pages.{more_paged}
use Rattle.class_ranges.proofs.paged_ranges.PagedRanges.of.Goals as goal
use Rattle.class_ranges.proofs.paged_ranges.PagedRanges.of.Goals.{then-first-stretch, else-first-stretch}

pub page_number-requires-clause-alike : goal.page_number-requires-clause-alike
page_number-requires-clause-alike c =
    let Alike : Stretch → Type 0 = λ s. IsAlike (covers c.args.ranges) (c.loop-page.page * 256) s.last s.is_in in
    elim c.if-first-stretch.branch [
      | then-first-stretch w ↦ subst Alike (sym w.stretch-is) w.stretch_from-stretch-then-first-stretch.ensures.alike
      | else-first-stretch w ↦ subst Alike (sym w.stretch-is) c.loop-page.invariant.alike
    ]

pub loop-page-preserved : goal.loop-page-preserved
loop-page-preserved c =
    let test : ℕ → Bool = λ w. covers c.args.ranges w in
    let Alike : Stretch → Type 0 = λ s. IsAlike (covers c.args.ranges) (c.loop-page.page * 256) s.last s.is_in in
    let alike : Alike c.if-first-stretch.stretch = elim c.if-first-stretch.branch [
      | then-first-stretch w ↦ subst Alike (sym w.stretch-is) w.stretch_from-stretch-then-first-stretch.ensures.alike
      | else-first-stretch w ↦ subst Alike (sym w.stretch-is) c.loop-page.invariant.alike
    ] in
    let right : IsPaged (c.loop-page.numbers.items ++ c.in_ok-page_number.field-0 ∷ []) c.page_number.new.pages.items test =
    more_paged test c.loop-page.numbers.items c.loop-page.pages.items c.page_number.new.pages.items c.in_ok-page_number.field-0
    c.loop-page.invariant.right c.in_ok-page_number.ensures.kept (λ k within. rw (c.loop-page.invariant.count) (c.in_ok-page_number.ensures.says k within)) in
    record {
      right = rw (c.in_ok-push.ensures.items) right;
      count = rw (c.in_ok-push.ensures.items) (omega (arith, length-append c.loop-page.numbers.items (c.in_ok-page_number.field-0 ∷ []), c.loop-page.invariant.count));
      few = omega (arith, c.in_ok-page_number.ensures.grown, c.loop-page.invariant.few);
      alike = λ w above below. let from : c.loop-page.page * 256 ≤ w = omega arith in alike w from below;
    }
