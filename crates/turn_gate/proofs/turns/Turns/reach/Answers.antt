use Rattle.std.proofs.Common.{Some, sym, ap, ◌∙◌}
use Rattle.turn_gate.proofs.Turning.{look_seated, look_count}
use Rattle.turn_gate.proofs.turns.Turns.reach.Goals as goal

pub invariant_of-seat : goal.invariant_of-seat
invariant_of-seat g c = look_seated g.M.Machine.legal g.M.Machine.version_of _ _ _ _ c.seat.invariant c.reach.ensures.looks

pub returns-clause-count : goal.returns-clause-count
returns-clause-count g c =
    let known = ap (λ x. x.terms) c.seat.view_is ∙ (c.requires.1 ∙ ap (λ x. Some x.terms) (sym c.self.view_is)) in
    c.count_in.ensures ∙ look_count g.M.Machine.legal g.M.Machine.version_of _ _ _ _ known c.self.invariant.small c.reach.ensures.looks

pub returns-clause-in_order : goal.returns-clause-in_order
returns-clause-in_order g c =
    let known = ap (λ x. x.terms) c.seat.view_is ∙ c.requires.1 in
    let seated = look_seated g.M.Machine.legal g.M.Machine.version_of _ _ _ _ c.seat.invariant c.reach.ensures.looks in
    seated.in_order c.args.self.now.terms (ap (λ m. m.0.terms) c.reach.ensures.looks.1 ∙ known)
