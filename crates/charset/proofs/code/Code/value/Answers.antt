use Rattle.std.proofs.Common.{arith}
use Rattle.charset.proofs.Shortest.{byte_more-fits}
use Rattle.charset.proofs.code.Code.value.Goals as goal

pub overflow_mul-value : goal.overflow_mul-value
overflow_mul-value c = omega (arith, byte_more-fits c.loop-byte.value c.loop-byte.byte-index 0 c.loop-byte.invariant.bound (omega arith) (omega arith))
