use Rattle.std.proofs.Common.{arith, ◌≡◌, ◌+◌, ◌*◌, ap}
use Rattle.std.specs.Str.Parse.{digits_value}
use Rattle.std.proofs.lemmas.Int.Digits.{digits_value-lt}
use Rattle.charset.proofs.TailLemmas.{digit_more-fits, digit_more, digits_all}
use Rattle.charset.proofs.tail.number_of.Goals as goal

pub overflow_mul-number : goal.overflow_mul-number
overflow_mul-number c =
    let fits = digit_more-fits c.args.digits.now c.loop-digit.digit-index c.loop-digit.number c.requires.all_digits c.requires.few c.loop-digit-test.true c.loop-digit.invariant in
    omega (arith, fits.0)

pub overflow_sub-digit : goal.overflow_sub-digit
overflow_sub-digit c = (digit_more-fits c.args.digits.now c.loop-digit.digit-index c.loop-digit.number c.requires.all_digits c.requires.few c.loop-digit-test.true c.loop-digit.invariant).1

pub overflow_add-number : goal.overflow_add-number
overflow_add-number c =
    let fits = digit_more-fits c.args.digits.now c.loop-digit.digit-index c.loop-digit.number c.requires.all_digits c.requires.few c.loop-digit-test.true c.loop-digit.invariant in
    omega (arith, fits.0, fits.2, c.from.ensures)

pub loop-digit-preserved : goal.loop-digit-preserved
loop-digit-preserved c = digit_more c.args.digits.now c.loop-digit.digit-index c.loop-digit.number _ c.requires.all_digits c.loop-digit-test.true c.loop-digit.invariant (ap (λ d. c.loop-digit.number * 10 + d) c.from.ensures)

pub returns-clause-below : goal.returns-clause-below
returns-clause-below c =
    let is : c.loop-digit.number ≡ digits_value 10 c.args.digits.now = digits_all c.args.digits.now c.loop-digit.digit-index c.loop-digit.number (omega arith) c.loop-digit.invariant in
    rw is (digits_value-lt 10 c.args.digits.now c.requires.all_digits)
