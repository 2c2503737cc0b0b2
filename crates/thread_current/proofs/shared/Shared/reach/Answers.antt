use Rattle.std.proofs.Common.{refl, sym, ap, ◌∙◌}
use Rattle.thread_current.specs.Thread.{thread_of}
use Rattle.thread_current.proofs.Calls.{Looked, looked, looked_seen, mine_later}
use Rattle.thread_current.proofs.Longer.{length_entries}
use Rattle.thread_current.proofs.shared.Shared.reach.Given as given
use Rattle.thread_current.proofs.shared.Shared.reach.Goals as goal
use Rattle.thread_current.proofs.shared.Shared.reach.Goals.{After-reach}

inner : (g : given.Over) (c : After-reach g) → Looked c.self.inside.turns (thread_of c.mine.inside.version c.mine.inside.seat) (thread_of c.mine.inside.version c.reach.new.seat)
inner g c =
    let e = c.reach.ensures in
    looked c.self.inside.turns c.args.self.now c.mine.inside.version c.mine.inside.version c.mine.inside.seat c.reach.new.seat c.args.mine.now
    c.mine.inside.named c.mine.inside.own c.mine.inside.object c.self.view_is c.mine.view_is c.requires c.mine.invariant e.same e.later e.in_order

outer : (g : given.Over) (c : After-reach g) → Looked c.args.self.now c.args.mine.now (thread_of c.mine.inside.version c.reach.new.seat)
outer g c = looked_seen c.self.inside.turns c.args.self.now _ c.args.mine.now _ c.self.view_is c.mine.view_is (inner g c)

pub invariant_of-mine : goal.invariant_of-mine
invariant_of-mine g c = let l = inner g c in mine_later c.self.inside.turns _ _ _ _ _ c.mine.invariant l.known l.saw.same.terms l.saw.later l.selection refl l.is

pub returns-clause-saw : goal.returns-clause-saw
returns-clause-saw g c = (outer g c).saw

pub returns-clause-keeps : goal.returns-clause-keeps
returns-clause-keeps g c = let l = outer g c in record { selection = l.selection; holds = l.holds; cached = ap (λ t. t.cached) c.mine.view_is }

pub returns-clause-in_order : goal.returns-clause-in_order
returns-clause-in_order g c = (outer g c).is

pub returns-clause-count : goal.returns-clause-count
returns-clause-count g c = c.reach.ensures.count ∙ sym (length_entries c.reach.new.seat.seen)
