use Rattle.std.proofs.Common.{◌≡◌, ℕ, suc, ◌+◌, ◌-◌, ◌/◌, ◌%◌, ◌^◌, ◌<◌, List, [], ◌∷◌, ◌++◌, arith, ap, sym, subst, ◌∙◌}
use Rattle.digit_groups.specs.Groups.{sizes_used, separated}
use Rattle.digit_groups.specs.Digits.{last_digits}
use Rattle.int_format.specs.Ints.{between}
use Rattle.int_format.proofs.ReadLemmas.{IsLeft, step_on, step_back, digit_left, sep_left, digit_small, next_below, nothing_left, is_over, emptied, not_emptied}
use Rattle.int_format.proofs.read.value_of.Goals as goal

pub returns-in_err-digit-clause-back : goal.returns-in_err-digit-clause-back
returns-in_err-digit-clause-back c = λ x small text.
    let one : c.loop-left.left ≡ suc (c.loop-left.left - 1) = omega arith in
    let there = digit_left (sizes_used c.args.sizes.now) c.args.sep.now x c.loop-left.left (c.loop-left.left - 1) c.loop-left.value c.loop-left.rest.now one (c.loop-left.invariant.on x small text) in
    absurd (c.first_digit.ensures.back (x / 10 ^ (c.loop-left.left - 1) % 10) _ (digit_small x (c.loop-left.left - 1)) there c.in_err-digit.was)

pub returns-in_err-rest-clause-back : goal.returns-in_err-rest-clause-back
returns-in_err-rest-clause-back c = λ x small text.
    let one : c.loop-left.left ≡ suc (c.loop-left.left - 1) = omega arith in
    let later : List ℕ = separated (last_digits (c.loop-left.left - 1) x) (sizes_used c.args.sizes.now) c.args.sep.now in
    let there = sep_left (sizes_used c.args.sizes.now) c.args.sep.now x c.loop-left.left (c.loop-left.left - 1) c.loop-left.value c.in_ok-digit.digit c.loop-left.rest.now c.in_ok-digit.behind.now one (c.loop-left.invariant.on x small text) c.in_ok-digit.ensures.read.1 in
    absurd (c.behind_front.ensures.back later (there ∙ ap (λ t. t ++ later) (sym c.between.ensures)) c.in_err-rest.was)

pub loop-left-preserved : goal.loop-left-preserved
loop-left-preserved c =
    let one : c.loop-left.left ≡ suc (c.loop-left.left - 1) = omega arith in
    let sizes = sizes_used c.args.sizes.now in
    let next : List ℕ = c.in_ok-rest.rest.now in
    let small : c.from.result < 10 = omega (arith, c.in_ok-digit.ensures.read.0, c.from.ensures) in
    let cut : c.loop-left.rest.now ≡ (48 + c.from.result) ∷ (between sizes c.args.sep.now (c.loop-left.left - 1) ++ next) =
    c.in_ok-digit.ensures.read.1 ∙ ap (λ t. (48 + c.in_ok-digit.digit) ∷ t) (c.in_ok-rest.ensures.read ∙ ap (λ t. t ++ next) c.between.ensures) ∙ ap (λ d. (48 + d) ∷ (between sizes c.args.sep.now (c.loop-left.left - 1) ++ next)) (sym c.from.ensures) in
    record {
      on = λ x below text. step_on sizes c.args.sep.now x c.loop-left.left (c.loop-left.left - 1) c.loop-left.value c.from.result c.loop-left.rest.now next one (c.loop-left.invariant.on x below text) small cut;
      back = λ x is. c.loop-left.invariant.back x (step_back sizes c.args.sep.now x c.loop-left.left (c.loop-left.left - 1) c.loop-left.value c.from.result c.loop-left.rest.now next one is small cut);
      small = next_below (c.args.count - c.loop-left.left) (c.args.count - (c.loop-left.left - 1)) c.loop-left.value c.from.result c.loop-left.invariant.small small (omega (arith, c.loop-left.invariant.within));
      within = omega (arith, c.loop-left.invariant.within);
    }

pub returns-then-is_empty-clause-read : goal.returns-then-is_empty-clause-read
returns-then-is_empty-clause-read c =
    let none : c.loop-left.left ≡ 0 = omega arith in
    let empty : c.loop-left.rest.now ≡ [] = emptied c.loop-left.rest.now (sym c.is_empty.ensures ∙ c.if-is_empty.true) in
    c.loop-left.invariant.back c.loop-left.value (subst (λ (n : ℕ). IsLeft (sizes_used c.args.sizes.now) c.args.sep.now c.loop-left.value n c.loop-left.value c.loop-left.rest.now) (sym none) (is_over (sizes_used c.args.sizes.now) c.args.sep.now c.loop-left.value c.loop-left.rest.now empty))

pub returns-else-is_empty-clause-back : goal.returns-else-is_empty-clause-back
returns-else-is_empty-clause-back c = λ x small text.
    let none : c.loop-left.left ≡ 0 = omega arith in
    let is : IsLeft (sizes_used c.args.sizes.now) c.args.sep.now x 0 c.loop-left.value c.loop-left.rest.now = subst (λ (n : ℕ). IsLeft (sizes_used c.args.sizes.now) c.args.sep.now x n c.loop-left.value c.loop-left.rest.now) none (c.loop-left.invariant.on x small text) in
    absurd (not_emptied c.loop-left.rest.now (sym c.is_empty.ensures ∙ c.if-is_empty.false) (nothing_left (sizes_used c.args.sizes.now) c.args.sep.now x c.loop-left.value c.loop-left.rest.now is))
