use Rattle.std.proofs.Common.{◌≡◌, ℕ, ◌+◌, ◌<◌, ◌≤◌, Bool, true, false, nat_lt, nat_eq, refl, sym, ap, ◌∙◌, subst, arith, length}
use Rattle.std.proofs.lemmas.Bool.Decides.{nat_tests}
use Rattle.class_ranges.specs.Pages.{has_bit}
use Rattle.class_ranges.proofs.Words.{IsWordTo, with_bit, without_bit}
use Rattle.ctype_classes.specs.Classes.{has_numbered}
use Rattle.ctype_classes.proofs.ClassBits.{none_from}
use Rattle.ctype_classes.proofs.class_bits.class_bits.Goals as goal
use Rattle.ctype_classes.proofs.class_bits.class_bits.Goals.{then-has_numbered, else-has_numbered}

pub loop-number-preserved : goal.loop-number-preserved
loop-number-preserved c =
    let test : ℕ → Bool = λ j. has_numbered c.args.classes.now j c.args.w in
    let bit : c.loop-number.number < 64 = omega (arith, c.loop-number-test.true, c.min-number-end.ensures, c.loop-number.auto.number-end) in
    let done : IsWordTo test c.loop-number.bits c.loop-number.number = record { done = c.loop-number.invariant.done; empty = c.loop-number.invariant.empty } in
    let more : IsWordTo test c.if-has_numbered.bits (c.loop-number.number + 1) = elim c.if-has_numbered.branch [
      | then-has_numbered w ↦ subst (λ n. IsWordTo test n (c.loop-number.number + 1)) (sym w.bits-is) (with_bit test c.loop-number.bits c.loop-number.number bit (sym c.has_numbered.ensures ∙ w.if-has_numbered.true) done)
      | else-has_numbered w ↦ subst (λ n. IsWordTo test n (c.loop-number.number + 1)) (sym w.bits-is) (without_bit test c.loop-number.bits c.loop-number.number (sym c.has_numbered.ensures ∙ w.if-has_numbered.false) done)
    ] in
    record { done = more.done; empty = more.empty }

pub returns : goal.returns
returns c = λ number below.
    (elim (nat_lt number c.loop-number.number) as (λ b. nat_lt number c.loop-number.number ≡ b → has_bit c.loop-number.bits number ≡ has_numbered c.args.classes.now number c.args.w) [
      | true ↦ λ is. let under : number < c.loop-number.number = grind (arith, nat_tests) in c.loop-number.invariant.done number under
      | false ↦ λ is.
          let above : c.loop-number.number ≤ number = grind (arith, nat_tests) in
          let last : length c.args.classes.now ≤ number = omega (arith, c.loop-number-test.false, c.min-number-end.ensures, c.len.ensures, c.loop-number.auto.number-end) in
          ap (λ n. nat_eq n 1) (c.loop-number.invariant.empty number above) ∙ sym (none_from c.args.classes.now number c.args.w last)
    ]) refl
