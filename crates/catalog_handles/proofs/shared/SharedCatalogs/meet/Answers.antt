use Rattle.std.proofs.Common.{subst}
use Rattle.catalog_handles.specs.Seen.{entries_of}
use Rattle.catalog_handles.specs.Reader.{ReaderData, reader_of, GoesOnFrom}
use Rattle.catalog_handles.proofs.Calls.{Met, met, extends_entries}
use Rattle.catalog_handles.proofs.shared.SharedCatalogs.meet.Given as given
use Rattle.catalog_handles.proofs.shared.SharedCatalogs.meet.Goals as goal
use Rattle.catalog_handles.proofs.shared.SharedCatalogs.meet.Goals.{After-meet}

met_a : (g : given.Over) (c : After-meet g) → Met c.args.self.now c.args.a.now (reader_of g.B.Part.number c.meet.new.a)
met_a g c =
    let e = c.meet.ensures in
    met g.B.Part.number c.self.inside.turns c.args.self.now c.a.inside.seat c.meet.new.a c.args.a.now c.self.view_is c.a.view_is c.requires.a e.same_a e.seen_a.0 e.in_order_a

met_b : (g : given.Over) (c : After-meet g) → Met c.args.self.now c.args.b.now (reader_of g.B.Part.number c.meet.new.b)
met_b g c =
    let e = c.meet.ensures in
    met g.B.Part.number c.self.inside.turns c.args.self.now c.b.inside.seat c.meet.new.b c.args.b.now c.self.view_is c.b.view_is c.requires.b e.same_b e.seen_b.0 e.in_order_b

pub invariant_of-a : goal.invariant_of-a
invariant_of-a g c = (met_a g c).orderly

pub invariant_of-b : goal.invariant_of-b
invariant_of-b g c = (met_b g c).orderly

pub returns-clause-saw_a : goal.returns-clause-saw_a
returns-clause-saw_a g c =
    ((met_a g c).saw, subst (λ (r : ReaderData). GoesOnFrom (entries_of g.B.Part.number c.meet.new.a.seen) r.seen) c.b.view_is (extends_entries g.B.Part.number _ _ c.meet.ensures.seen_a.1))

pub returns-clause-saw_b : goal.returns-clause-saw_b
returns-clause-saw_b g c =
    ((met_b g c).saw, subst (λ (r : ReaderData). GoesOnFrom (entries_of g.B.Part.number c.meet.new.b.seen) r.seen) c.a.view_is (extends_entries g.B.Part.number _ _ c.meet.ensures.seen_b.1))

pub returns-clause-in_order_a : goal.returns-clause-in_order_a
returns-clause-in_order_a g c = (met_a g c).is

pub returns-clause-in_order_b : goal.returns-clause-in_order_b
returns-clause-in_order_b g c = (met_b g c).is
