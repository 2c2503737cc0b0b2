use Rattle.std.proofs.Common.{refl, ap, subst}
use Rattle.turn_gate.specs.Callers.{Gate}
use Rattle.handle_table.specs.Entry.{Setting}
use Rattle.thread_current.specs.Seen.{entries_of}
use Rattle.thread_current.specs.Thread.{Thread, thread_of, GoesOnFrom, IsInOrder}
use Rattle.thread_current.proofs.Calls.{Looked, looked, looked_seen, mine_later, extends_entries, saw_more, in_order}
use Rattle.thread_current.proofs.shared.Shared.meet_ended.Given as given
use Rattle.thread_current.proofs.shared.Shared.meet_ended.Goals as goal
use Rattle.thread_current.proofs.shared.Shared.meet_ended.Goals.{After-meet}

inner : (g : given.Over) (c : After-meet g) → Looked c.self.inside.turns (thread_of c.mine.inside.version c.mine.inside.seat) (thread_of c.mine.inside.version c.meet.new.b)
inner g c =
    let e = c.meet.ensures in
    looked c.self.inside.turns c.args.self.now c.mine.inside.version c.mine.inside.version c.mine.inside.seat c.meet.new.b c.args.mine.now
    c.mine.inside.named c.mine.inside.own c.mine.inside.object c.self.view_is c.mine.view_is c.requires.thread c.mine.invariant e.same_b e.seen_b.0 e.in_order_b

outer : (g : given.Over) (c : After-meet g) → Looked c.args.self.now c.args.mine.now (thread_of c.mine.inside.version c.meet.new.b)
outer g c = looked_seen c.self.inside.turns c.args.self.now _ c.args.mine.now _ c.self.view_is c.mine.view_is (inner g c)

pub invariant_of-mine : goal.invariant_of-mine
invariant_of-mine g c = let l = inner g c in mine_later c.self.inside.turns _ _ _ _ _ c.mine.invariant l.known l.saw.same.terms l.saw.later l.selection refl l.is

pub returns-clause-saw_ended : goal.returns-clause-saw_ended
returns-clause-saw_ended g c = (
  saw_more 0 0 c.args.ended.now c.meet.new.a c.meet.ensures.same_a c.meet.ensures.seen_a.0,
  subst (λ (t : Thread). GoesOnFrom (entries_of c.meet.new.a.seen) t.seen) c.mine.view_is (extends_entries _ _ c.meet.ensures.seen_a.1),
)

pub returns-clause-saw : goal.returns-clause-saw
returns-clause-saw g c = ((outer g c).saw, extends_entries _ _ c.meet.ensures.seen_b.1)

pub returns-clause-keeps : goal.returns-clause-keeps
returns-clause-keeps g c = let l = outer g c in record { selection = l.selection; holds = l.holds; cached = ap (λ t. t.cached) c.mine.view_is }

pub returns-clause-in_order_ended : goal.returns-clause-in_order_ended
returns-clause-in_order_ended g c = subst (λ (x : Gate Setting). IsInOrder x.terms (thread_of 0 c.meet.new.a)) c.self.view_is (in_order c.self.inside.turns.terms 0 c.meet.new.a c.meet.ensures.in_order_a)

pub returns-clause-in_order : goal.returns-clause-in_order
returns-clause-in_order g c = (outer g c).is
