use Rattle.std.proofs.Common.{arith}
use Rattle.class_ranges.proofs.Orders.{follow_apart}
use Rattle.class_ranges.proofs.CommonValues.{first_common_least}
use Rattle.class_ranges.proofs.ranges.Ranges.first_common.Goals as goal

pub returns-clause-least : goal.returns-clause-least
returns-clause-least c =
    rw (c.first_common.ensures, c.deref.ensures.value, c.deref-2.ensures.value, ← c.self.view_is, ← c.other.view_is)
    (first_common_least 0 c.self.inside.ranges.items c.other.inside.ranges.items
    (follow_apart 0 _ c.self.invariant (λ d some. omega arith))
    (follow_apart 0 _ c.other.invariant (λ d some. omega arith)))
