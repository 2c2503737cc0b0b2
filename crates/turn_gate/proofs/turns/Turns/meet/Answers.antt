use Rattle.std.proofs.Common.{sym, ap, ◌∙◌, subst}
use Rattle.turn_gate.specs.History.{Extends}
use Rattle.turn_gate.specs.Callers.{Seated}
use Rattle.turn_gate.proofs.Seats.{extends_both}
use Rattle.turn_gate.proofs.Turning.{Told, after_tell}
use Rattle.turn_gate.proofs.turns.Turns.meet.Given as given
use Rattle.turn_gate.proofs.turns.Turns.meet.Goals as goal

told_b : (g : given.Over) (c : goal.After-tell-2 g) → Told {M = g.row.M.Denot} g.M.Machine.legal g.M.Machine.version_of c.b.inside.number c.b.inside.place.me c.a.inside.place.me.0 c.tell.new.to.me
told_b g c = after_tell g.M.Machine.legal g.M.Machine.version_of c.b.inside.number c.b.inside.place.me c.tell.new.to.me c.a.inside.place.me.0 c.b.invariant c.tell.ensures.told

told_a : (g : given.Over) (c : goal.After-tell-2 g) → Told {M = g.row.M.Denot} g.M.Machine.legal g.M.Machine.version_of c.a.inside.number c.tell.new.from.me c.tell.new.to.me.0 c.tell-2.new.to.me
told_a g c = after_tell g.M.Machine.legal g.M.Machine.version_of c.a.inside.number c.tell.new.from.me c.tell-2.new.to.me c.tell.new.to.me.0
    (subst (Seated g.M.Machine.legal c.a.inside.number) (sym c.tell.ensures.from.1) c.a.invariant) c.tell-2.ensures.told

pub invariant_of-a : goal.invariant_of-a
invariant_of-a g c = (told_a g c).seated

pub invariant_of-b : goal.invariant_of-b
invariant_of-b g c = subst (Seated g.M.Machine.legal c.b.inside.number) (sym c.tell-2.ensures.from.1) (told_b g c).seated

pub returns-clause-seen_a : goal.returns-clause-seen_a
returns-clause-seen_a g c =
    let own = ap (λ m. m.0.seen) c.tell.ensures.from.1 ∙ ap (λ x. x.seen) c.a.view_is in
    let b : Extends c.tell.new.to.me.0.seen c.args.b.now.seen = subst (Extends c.tell.new.to.me.0.seen) (ap (λ x. x.seen) c.b.view_is) (told_b g c).seen in
    (subst (Extends c.tell-2.new.to.me.0.seen) own (told_a g c).seen, extends_both c.tell-2.new.to.me.0.seen c.tell.new.to.me.0.seen c.args.b.now.seen (told_a g c).told b)

pub returns-clause-in_order_a : goal.returns-clause-in_order_a
returns-clause-in_order_a g c =
    let known = ap (λ x. x.terms) c.a.view_is ∙ c.requires.a.1 in
    (told_a g c).seated.in_order c.args.self.now.terms ((told_a g c).terms_same ∙ (ap (λ m. m.0.terms) c.tell.ensures.from.1 ∙ known))

pub returns-clause-in_order_b : goal.returns-clause-in_order_b
returns-clause-in_order_b g c =
    let known = ap (λ x. x.terms) c.b.view_is ∙ c.requires.b.1 in
    let seated = subst (Seated g.M.Machine.legal c.b.inside.number) (sym c.tell-2.ensures.from.1) (told_b g c).seated in
    seated.in_order c.args.self.now.terms (ap (λ m. m.0.terms) c.tell-2.ensures.from.1 ∙ ((told_b g c).terms_same ∙ known))
