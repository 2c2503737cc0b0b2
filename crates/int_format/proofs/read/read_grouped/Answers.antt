use Rattle.std.proofs.Common.{◌≡◌, ℕ, suc, Some, Ok, List, arith, refl, ap, sym, subst, ◌∙◌, to_z, of_z}
use Rattle.std.proofs.Math.Facts.{to_z-of_z}
use Rattle.std.specs.Int.{w128}
use Rattle.std.proofs.lemmas.Int.{fits_signed_from_abs}
use Rattle.std.specs.Prelude.{ℤ, pos, IfSome}
use Rattle.int_format.specs.Ints.{below_zero, IsTextOf}
use Rattle.int_format.proofs.ReadLemmas.{IsBelow, text_below, below_read, IsAbove, text_above, above_read}
use Rattle.int_format.proofs.read.read_grouped.Goals as goal

pub returns-in_err-read_digits-in-Some-clause-back : goal.returns-in_err-read_digits-in-Some-clause-back
returns-in_err-read_digits-in-Some-clause-back c = λ v number text.
    let is : IsBelow c.args.n.now v c.in-Some.body.now = text_below c.args.n.now v c.in-Some.body.now number (text ∙ ap (λ t. Ok t) c.in-Some.ensures.read) in
    let read : c.read_digits.result ≡ Some (suc is.less) = c.read_digits.ensures.back (suc is.less) is.small is.text in
    cc (read, c.in_err-read_digits-in-Some.was)

pub returns-in_ok-read_digits-in-Some-clause-read : goal.returns-in_ok-read_digits-in-Some-clause-read
returns-in_ok-read_digits-in-Some-clause-read c =
    subst (λ (t : List ℕ). IfSome c.below_zero.result (λ (v : ℤ). IsTextOf c.args.n.now v t)) (sym c.in-Some.ensures.read)
    (below_read c.args.n.now c.in_ok-read_digits-in-Some.field-0 c.in-Some.body.now c.below_zero.result c.below_zero.ensures c.in_ok-read_digits-in-Some.ensures.read)

pub returns-in_ok-read_digits-in-Some-clause-back : goal.returns-in_ok-read_digits-in-Some-clause-back
returns-in_ok-read_digits-in-Some-clause-back c = λ v number text.
    let is : IsBelow c.args.n.now v c.in-Some.body.now = text_below c.args.n.now v c.in-Some.body.now number (text ∙ ap (λ t. Ok t) c.in-Some.ensures.read) in
    let read : c.read_digits.result ≡ Some (suc is.less) = c.read_digits.ensures.back (suc is.less) is.small is.text in
    let same : c.in_ok-read_digits-in-Some.field-0 ≡ suc is.less = cc (read, c.in_ok-read_digits-in-Some.was) in
    c.below_zero.ensures ∙ ap (λ m. below_zero m) same ∙ is.back

pub returns-in_err-read_digits-in-None-clause-back : goal.returns-in_err-read_digits-in-None-clause-back
returns-in_err-read_digits-in-None-clause-back c = λ v number text.
    let is : IsAbove c.args.n.now v c.args.text.now = text_above c.args.n.now v c.args.text.now number text (λ rest e. c.in-None.ensures.back rest e refl) in
    let read : c.read_digits-in-None.result ≡ Some is.magnitude = c.read_digits-in-None.ensures.back is.magnitude is.small is.text_is in
    cc (read, c.in_err-read_digits-in-None.was)

pub returns-in_ok-read_digits-in-None-clause-read : goal.returns-in_ok-read_digits-in-None-clause-read
returns-in_ok-read_digits-in-None-clause-read c =
    let same_number : to_z w128 (of_z w128 c.not_below_zero.result) ≡ pos c.in_ok-read_digits-in-None.field-0 = ap (λ v. to_z w128 (of_z w128 v)) c.not_below_zero.ensures ∙ to_z-of_z (fits_signed_from_abs w128 (pos c.in_ok-read_digits-in-None.field-0) (omega arith)) in
    subst (λ (v : ℤ). IsTextOf c.args.n.now v c.args.text.now) (sym same_number) (above_read c.args.n.now c.in_ok-read_digits-in-None.field-0 c.args.text.now (omega arith) c.in_ok-read_digits-in-None.ensures.read)

pub returns-in_ok-read_digits-in-None-clause-back : goal.returns-in_ok-read_digits-in-None-clause-back
returns-in_ok-read_digits-in-None-clause-back c = λ v number text.
    let same_number : to_z w128 (of_z w128 c.not_below_zero.result) ≡ pos c.in_ok-read_digits-in-None.field-0 = ap (λ v. to_z w128 (of_z w128 v)) c.not_below_zero.ensures ∙ to_z-of_z (fits_signed_from_abs w128 (pos c.in_ok-read_digits-in-None.field-0) (omega arith)) in
    let is : IsAbove c.args.n.now v c.args.text.now = text_above c.args.n.now v c.args.text.now number text (λ rest e. c.in-None.ensures.back rest e refl) in
    let read : c.read_digits-in-None.result ≡ Some is.magnitude = c.read_digits-in-None.ensures.back is.magnitude is.small is.text_is in
    let same : c.in_ok-read_digits-in-None.field-0 ≡ is.magnitude = cc (read, c.in_ok-read_digits-in-None.was) in
    ap (λ w. Some w) (same_number ∙ ap (λ m. pos m) same ∙ sym is.value)
