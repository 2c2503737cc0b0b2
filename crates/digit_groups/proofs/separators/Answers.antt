use Rattle.std.proofs.Common.{◌≡◌, ◌+◌, ◌-◌, arith, ◌∙◌, sym, ap}
use Rattle.digit_groups.specs.Groups.{separators, before_last}
use Rattle.digit_groups.proofs.GroupLemmas.{IsStep, step, step_count, end_count}
use Rattle.digit_groups.proofs.separators.Goals as goal

pub loop-size-preserved : goal.loop-size-preserved
loop-size-preserved c =
    let is : IsStep c.loop-size.rest.now c.loop-size.left c.in-Some.size = step _ _ _ c.loop-size.invariant.sizes (sym c.last_group.ensures ∙ c.in-Some.is) in
    let count : separators c.loop-size.rest.now c.loop-size.left ≡ separators (before_last c.loop-size.rest.now) (c.loop-size.left - c.in-Some.size) + 1 = step_count _ _ _ is in
    let same : separators c.before_last-rest.result.now (c.loop-size.left - c.in-Some.size) ≡ separators (before_last c.loop-size.rest.now) (c.loop-size.left - c.in-Some.size) = ap (λ s. separators s (c.loop-size.left - c.in-Some.size)) c.before_last-rest.ensures in
    record {
      sizes = rw c.before_last-rest.ensures is.rest;
      counted = omega arith;
      few = omega (arith, is.some, is.less);
    }

pub returns-clause-is : goal.returns-clause-is
returns-clause-is c =
    let all : separators c.loop-size.rest.now c.loop-size.left ≡ 0 = end_count _ _ c.loop-size.invariant.sizes (sym c.last_group.ensures ∙ c.in_default.is) in
    omega arith
