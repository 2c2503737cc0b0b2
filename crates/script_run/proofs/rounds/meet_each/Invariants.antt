use Rattle.script_seats.specs.Seated.{gates}
use Rattle.script_run.proofs.Meeting.{MeetsTo}
use Rattle.script_run.proofs.rounds.meet_each.Given as goal

-- the first one has met those so far, and the others are as they were
abbrev pub invariant-loop-other : goal.invariant-loop-other
invariant-loop-other l = MeetsTo (gates l.shared l.catalogs) l.initial.first l.first l.initial.other-items l.other-items l.other-index
