use Rattle.std.proofs.Common.{◌≡◌, ℕ, ◌+◌, ◌^◌, ◌&&◌, Bool, sym, ap, ◌∙◌, arith}
use Rattle.charset.specs.CodedSet.{has}
use Rattle.tool_check.specs.Summary.{count_below, is_numbered}
use Rattle.tool_check.proofs.SummaryLemmas.{count_below-zero, run_counted, rest_counted, last_counted}
use Rattle.tool_check.proofs.summary.numbered_count.Goals as goal

pub loop-first-init : goal.loop-first-init
loop-first-init c = record { counted = sym (count_below-zero _); few = omega arith; within = omega arith }

pub loop-first-preserved : goal.loop-first-preserved
loop-first-preserved c =
    let H : ℕ → Bool = has c.args.charset.now in
    let P : ℕ → Bool = is_numbered c.args.ctype.now.classes c.args.number in
    let next : c.in-Some-checked_add.next ≡ c.in-Some.last + 1 = omega (arith, c.in-Some-checked_add.ensures.1) in
    let counted : c.loop-first.count + c.member_count-count.result ≡ count_below (λ w. H w && P w) (c.in-Some.last + 1) =
    run_counted H P c.loop-first.from c.in-Some.first c.in-Some.last c.loop-first.count c.member_count-count.result c.in-Some.ensures c.loop-first.invariant.counted c.member_count-count.ensures.is in
    record {
      counted = counted ∙ ap (count_below (λ w. H w && P w)) (sym next);
      few = omega (arith, next, c.in-Some.ensures.within.0, c.in-Some.ensures.within.1, c.member_count-count.ensures.few, c.loop-first.invariant.few);
      within = omega (arith, next, c.member_count-count.ensures.within);
    }

pub returns-in-None : goal.returns-in-None
returns-in-None c =
    let H : ℕ → Bool = has c.args.charset.now in
    let P : ℕ → Bool = is_numbered c.args.ctype.now.classes c.args.number in
    let counted : c.loop-first.count + c.member_count-count.result ≡ count_below (λ w. H w && P w) (c.in-Some.last + 1) =
    run_counted H P c.loop-first.from c.in-Some.first c.in-Some.last c.loop-first.count c.member_count-count.result c.in-Some.ensures c.loop-first.invariant.counted c.member_count-count.ensures.is in
    let end : c.in-Some.last + 1 ≡ 2 ^ 32 = omega (arith, c.in-None.ensures, c.member_count-count.ensures.within) in
    last_counted (λ w. H w && P w) c.in-Some.last (c.loop-first.count + c.member_count-count.result) end counted

pub returns : goal.returns
returns c =
    let H : ℕ → Bool = has c.args.charset.now in
    let P : ℕ → Bool = is_numbered c.args.ctype.now.classes c.args.number in
    rest_counted H P c.loop-first.from c.loop-first.count c.in_default.ensures c.loop-first.invariant.within c.loop-first.invariant.counted
