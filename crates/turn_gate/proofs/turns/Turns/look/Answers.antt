use Rattle.std.proofs.Common.{Some, sym, ap, ◌∙◌}
use Rattle.turn_gate.proofs.Turning.{look_seated, look_version}
use Rattle.turn_gate.proofs.turns.Turns.look.Goals as goal

pub invariant_of-seat : goal.invariant_of-seat
invariant_of-seat g c = look_seated g.M.Machine.legal g.M.Machine.version_of _ _ _ _ c.seat.invariant c.look.ensures.looks

pub returns-clause-version : goal.returns-clause-version
returns-clause-version g c =
    let known = ap (λ x. x.terms) c.seat.view_is ∙ (c.requires.1 ∙ ap (λ x. Some x.terms) (sym c.self.view_is)) in
    c.version_in.ensures ∙ look_version g.M.Machine.legal g.M.Machine.version_of c.seat.inside.number _ _ _ _ known c.self.invariant.small c.look.ensures.looks

pub returns-clause-in_order : goal.returns-clause-in_order
returns-clause-in_order g c =
    let known = ap (λ x. x.terms) c.seat.view_is ∙ c.requires.1 in
    let seated = look_seated g.M.Machine.legal g.M.Machine.version_of _ _ _ _ c.seat.invariant c.look.ensures.looks in
    seated.in_order c.args.self.now.terms (ap (λ m. m.0.terms) c.look.ensures.looks.1 ∙ known)
