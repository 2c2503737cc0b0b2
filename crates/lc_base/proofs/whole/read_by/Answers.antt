use Rattle.std.proofs.Common.{arith}
use Rattle.std.proofs.KnownBytes.{Consumes-trans}
use Rattle.std.proofs.lemmas.List.{length-append, length-take}
use Rattle.lc_base.proofs.whole.read_by.Goals as goal

pub returns-in_err-extend_from_slice-clause-at_most : goal.returns-in_err-extend_from_slice-clause-at_most
returns-in_err-extend_from_slice-clause-at_most g c =
    (_, Consumes-trans _ _ _ _ _ c.loop-text.invariant.came c.in_ok-came.ensures.moved.0, grind (arith, length-append, length-take))
