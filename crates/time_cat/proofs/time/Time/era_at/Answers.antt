use Rattle.std.proofs.Common.{sym}
use Rattle.time_cat.proofs.Whole.{found_segment}
use Rattle.time_cat.proofs.time.Time.era_at.Goals as goal

pub returns-clause-format : goal.returns-clause-format
returns-clause-format c =
    rw c.as_bytes-2.ensures (found_segment c.self.inside.era _ c.in_ok-segment.segment.now c.self.invariant.whole.era (rw c.as_slice.ensures at (sym c.in_ok-segment.ensures)))
