use Rattle.std.proofs.Common.{◌<◌, arith}
use Rattle.strptime_fields.proofs.NumberLemmas.{before_last}
use Rattle.strptime_fields.proofs.number.value_of.Goals as goal

pub overflow_mul-value : goal.overflow_mul-value
overflow_mul-value c =
    let small : c.loop-digit.value < 1000 = before_last _ c.loop-digit.digit-index c.loop-digit.invariant.bound (omega arith) in
    omega arith

pub overflow_add-value : goal.overflow_add-value
overflow_add-value c =
    let small : c.loop-digit.value < 1000 = before_last _ c.loop-digit.digit-index c.loop-digit.invariant.bound (omega arith) in
    omega (arith, c.from.ensures)
