use Rattle.std.proofs.Common.{refl, ap, subst}
use Rattle.thread_current.specs.Seen.{entries_of}
use Rattle.thread_current.specs.Thread.{Thread, thread_of, GoesOnFrom}
use Rattle.thread_current.proofs.Calls.{Looked, looked, looked_seen, mine_later, extends_entries}
use Rattle.thread_current.proofs.shared.Shared.meet.Given as given
use Rattle.thread_current.proofs.shared.Shared.meet.Goals as goal
use Rattle.thread_current.proofs.shared.Shared.meet.Goals.{After-meet}

inner_a : (g : given.Over) (c : After-meet g) → Looked c.self.inside.turns (thread_of c.a.inside.version c.a.inside.seat) (thread_of c.a.inside.version c.meet.new.a)
inner_a g c =
    let e = c.meet.ensures in
    looked c.self.inside.turns c.args.self.now c.a.inside.version c.a.inside.version c.a.inside.seat c.meet.new.a c.args.a.now
    c.a.inside.named c.a.inside.own c.a.inside.object c.self.view_is c.a.view_is c.requires.a c.a.invariant e.same_a e.seen_a.0 e.in_order_a

inner_b : (g : given.Over) (c : After-meet g) → Looked c.self.inside.turns (thread_of c.b.inside.version c.b.inside.seat) (thread_of c.b.inside.version c.meet.new.b)
inner_b g c =
    let e = c.meet.ensures in
    looked c.self.inside.turns c.args.self.now c.b.inside.version c.b.inside.version c.b.inside.seat c.meet.new.b c.args.b.now
    c.b.inside.named c.b.inside.own c.b.inside.object c.self.view_is c.b.view_is c.requires.b c.b.invariant e.same_b e.seen_b.0 e.in_order_b

outer_a : (g : given.Over) (c : After-meet g) → Looked c.args.self.now c.args.a.now (thread_of c.a.inside.version c.meet.new.a)
outer_a g c = looked_seen c.self.inside.turns c.args.self.now _ c.args.a.now _ c.self.view_is c.a.view_is (inner_a g c)

outer_b : (g : given.Over) (c : After-meet g) → Looked c.args.self.now c.args.b.now (thread_of c.b.inside.version c.meet.new.b)
outer_b g c = looked_seen c.self.inside.turns c.args.self.now _ c.args.b.now _ c.self.view_is c.b.view_is (inner_b g c)

pub invariant_of-a : goal.invariant_of-a
invariant_of-a g c = let l = inner_a g c in mine_later c.self.inside.turns _ _ _ _ _ c.a.invariant l.known l.saw.same.terms l.saw.later l.selection refl l.is

pub invariant_of-b : goal.invariant_of-b
invariant_of-b g c = let l = inner_b g c in mine_later c.self.inside.turns _ _ _ _ _ c.b.invariant l.known l.saw.same.terms l.saw.later l.selection refl l.is

pub returns-clause-saw_a : goal.returns-clause-saw_a
returns-clause-saw_a g c = ((outer_a g c).saw, subst (λ (t : Thread). GoesOnFrom (entries_of c.meet.new.a.seen) t.seen) c.b.view_is (extends_entries _ _ c.meet.ensures.seen_a.1))

pub returns-clause-saw_b : goal.returns-clause-saw_b
returns-clause-saw_b g c = ((outer_b g c).saw, subst (λ (t : Thread). GoesOnFrom (entries_of c.meet.new.b.seen) t.seen) c.a.view_is (extends_entries _ _ c.meet.ensures.seen_b.1))

pub returns-clause-keeps_a : goal.returns-clause-keeps_a
returns-clause-keeps_a g c = let l = outer_a g c in record { selection = l.selection; holds = l.holds; cached = ap (λ t. t.cached) c.a.view_is }

pub returns-clause-keeps_b : goal.returns-clause-keeps_b
returns-clause-keeps_b g c = let l = outer_b g c in record { selection = l.selection; holds = l.holds; cached = ap (λ t. t.cached) c.b.view_is }

pub returns-clause-in_order_a : goal.returns-clause-in_order_a
returns-clause-in_order_a g c = (outer_a g c).is

pub returns-clause-in_order_b : goal.returns-clause-in_order_b
returns-clause-in_order_b g c = (outer_b g c).is
