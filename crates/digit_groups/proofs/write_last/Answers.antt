use Rattle.std.proofs.Common.{◌≡◌, ℕ, ◌+◌, ◌-◌, ◌/◌, ◌%◌, ◌<◌, List, [], ◌∷◌, ◌++◌, length, drop, slice_set, arith, ap, sym, ◌∙◌}
use Rattle.std.proofs.lemmas.List.{append_assoc, drop-set, length-set}
use Rattle.digit_groups.specs.Digits.{last_digits, without_last}
use Rattle.digit_groups.proofs.DigitLemmas.{digit_before, without_before}
use Rattle.digit_groups.proofs.write_last.Goals as goal

pub loop-missing-preserved : goal.loop-missing-preserved
loop-missing-preserved c =
    let digit : ℕ = 48 + c.loop-missing.left % 10 in
    let front : List ℕ = last_digits (c.loop-missing.missing - 1) (c.loop-missing.left / 10) in
    let less : c.loop-missing.at - 1 < length c.loop-missing.target = omega (arith, c.loop-missing.invariant.within, c.loop-missing.invariant.place, c.requires.room) in
    let same : c.loop-missing.at - 1 + 1 ≡ c.loop-missing.at = omega (arith, c.loop-missing.invariant.place, c.requires.room) in
    let put : drop (c.loop-missing.at - 1) (slice_set c.loop-missing.target (c.loop-missing.at - 1) digit) ≡ digit ∷ drop c.loop-missing.at c.loop-missing.target =
    drop-set c.loop-missing.target (c.loop-missing.at - 1) digit less ∙ ap (λ n. digit ∷ drop n c.loop-missing.target) same in
    record {
      written = c.loop-missing.invariant.written
          ∙ ap (λ t. t ++ drop c.loop-missing.at c.loop-missing.target) (digit_before c.loop-missing.missing c.loop-missing.left (omega arith))
          ∙ append_assoc front (digit ∷ []) (drop c.loop-missing.at c.loop-missing.target)
          ∙ ap (λ t. front ++ t) (sym put);
      before = c.loop-missing.invariant.before ∙ without_before c.loop-missing.missing c.loop-missing.left (omega arith);
      place = omega (arith, c.loop-missing.invariant.place, c.requires.room);
      within = omega (arith, c.loop-missing.invariant.within, length-set c.loop-missing.target (c.loop-missing.at - 1) digit);
    }

pub returns-clause-begins : goal.returns-clause-begins
returns-clause-begins c = omega (arith, c.loop-missing.invariant.place)

pub returns-clause-written : goal.returns-clause-written
unfolding last_digits
returns-clause-written c =
    let none : c.loop-missing.missing ≡ 0 = omega arith in
    sym (rw none at c.loop-missing.invariant.written)

pub returns-clause-before : goal.returns-clause-before
unfolding without_last
returns-clause-before c =
    let none : c.loop-missing.missing ≡ 0 = omega arith in
    sym (rw none at c.loop-missing.invariant.before)
