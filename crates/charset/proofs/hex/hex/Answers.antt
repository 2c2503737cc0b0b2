use Rattle.std.proofs.Common.{arith}
use Rattle.charset.proofs.HexLemmas.{below_seven, digit_fits}
use Rattle.charset.proofs.hex.hex.Goals as goal

pub overflow_mul-number : goal.overflow_mul-number
overflow_mul-number c =
    omega (arith, below_seven c.loop-digit.number c.loop-digit.digit-index c.loop-digit.invariant.1 (omega arith))

pub overflow_add-number : goal.overflow_add-number
overflow_add-number c =
    omega (
      arith,
      digit_fits c.loop-digit.number c.loop-digit.digit-index c.in_ok-number.field-0 c.loop-digit.invariant.1
          (omega arith)
          (rw (← c.in_ok-number.ensures.value.1) at c.in_ok-number.ensures.value.0),
    )
