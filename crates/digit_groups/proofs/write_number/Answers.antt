use Rattle.std.proofs.Common.{None, ◌≡◌, ◌+◌, ◌-◌, ◌*◌, ◌++◌, length, drop, arith, ◌∙◌, sym, ap, refl}
use Rattle.std.proofs.lemmas.List.{append_assoc}
use Rattle.digit_groups.specs.Digits.{last_digits}
use Rattle.digit_groups.specs.Groups.{separators, separated, last_group, before_last}
use Rattle.digit_groups.proofs.DigitLemmas.{length-last_digits, number_cut}
use Rattle.digit_groups.proofs.GroupLemmas.{IsStep, step, step_count, end_count, end_plain}
use Rattle.digit_groups.proofs.write_number.Goals as goal

pub write_before-at-requires-clause-room : goal.write_before-at-requires-clause-room
write_before-at-requires-clause-room c =
    let is : IsStep c.loop-size.rest.now c.loop-size.left c.in-Some.size = step _ _ _ c.loop-size.invariant.sizes (sym c.last_group.ensures ∙ c.in-Some.is) in
    let count : separators c.loop-size.rest.now c.loop-size.left ≡ separators (before_last c.loop-size.rest.now) (c.loop-size.left - c.in-Some.size) + 1 = step_count _ _ _ is in
    let wide : separators c.loop-size.rest.now c.loop-size.left * length c.args.sep.now ≡ separators (before_last c.loop-size.rest.now) (c.loop-size.left - c.in-Some.size) * length c.args.sep.now + length c.args.sep.now = ap (λ n. n * length c.args.sep.now) count ∙ omega arith in
    omega (arith, is.less, wide, c.requires.room, c.write_last-begin.ensures.begins, c.loop-size.invariant.front)

pub loop-size-preserved : goal.loop-size-preserved
loop-size-preserved c =
    let is : IsStep c.loop-size.rest.now c.loop-size.left c.in-Some.size = step _ _ _ c.loop-size.invariant.sizes (sym c.last_group.ensures ∙ c.in-Some.is) in
    let count : separators c.loop-size.rest.now c.loop-size.left ≡ separators (before_last c.loop-size.rest.now) (c.loop-size.left - c.in-Some.size) + 1 = step_count _ _ _ is in
    let wide : separators c.loop-size.rest.now c.loop-size.left * length c.args.sep.now ≡ separators (before_last c.loop-size.rest.now) (c.loop-size.left - c.in-Some.size) * length c.args.sep.now + length c.args.sep.now = ap (λ n. n * length c.args.sep.now) count ∙ omega arith in
    let rest : separators c.before_last-rest.result.now (c.loop-size.left - c.in-Some.size) * length c.args.sep.now ≡ separators (before_last c.loop-size.rest.now) (c.loop-size.left - c.in-Some.size) * length c.args.sep.now = ap (λ s. separators s (c.loop-size.left - c.in-Some.size) * length c.args.sep.now) c.before_last-rest.ensures in
    let cut = number_cut c.loop-size.rest.now c.loop-size.left c.in-Some.size c.loop-size.number c.args.sep.now is in
    let written : drop c.write_before-at.result c.write_before-at.new.target ≡ c.args.sep.now ++ (last_digits c.in-Some.size c.loop-size.number ++ drop c.loop-size.at c.loop-size.target) = c.write_before-at.ensures.written ∙ ap (λ t. c.args.sep.now ++ t) c.write_last-begin.ensures.written in
    record {
      sizes = rw c.before_last-rest.ensures is.rest;
      room = omega arith;
      front = omega (arith, is.less, wide, rest, c.write_last-begin.ensures.begins, c.write_before-at.ensures.begins, c.loop-size.invariant.front);
      back = c.loop-size.invariant.back
          ∙ ap (λ t. t ++ drop c.loop-size.at c.loop-size.target) cut
          ∙ simp append_assoc
          (rw (c.before_last-rest.ensures, c.write_last-begin.ensures.before, written) refl);
    }

pub returns-clause-begins : goal.returns-clause-begins
returns-clause-begins c =
    let last : last_group c.loop-size.rest.now c.loop-size.left ≡ None = sym c.last_group.ensures ∙ c.in_default.is in
    let none : separators c.loop-size.rest.now c.loop-size.left ≡ 0 = end_count _ _ c.loop-size.invariant.sizes last in
    let wide : separators c.loop-size.rest.now c.loop-size.left * length c.args.sep.now ≡ 0 = ap (λ n. n * length c.args.sep.now) none ∙ omega arith in
    omega (arith, wide, c.write_digits.ensures.begins, c.loop-size.invariant.front)

pub returns-clause-written : goal.returns-clause-written
returns-clause-written c =
    let last : last_group c.loop-size.rest.now c.loop-size.left ≡ None = sym c.last_group.ensures ∙ c.in_default.is in
    let size : length (last_digits c.loop-size.left c.loop-size.number) ≡ c.loop-size.left = length-last_digits c.loop-size.left c.loop-size.number in
    let plain : separated (last_digits c.loop-size.left c.loop-size.number) c.loop-size.rest.now c.args.sep.now ≡ last_digits c.loop-size.left c.loop-size.number = end_plain _ _ c.args.sep.now c.loop-size.invariant.sizes (rw size last) in
    c.write_digits.ensures.written ∙ sym (c.loop-size.invariant.back ∙ ap (λ t. t ++ drop c.loop-size.at c.loop-size.target) plain)
