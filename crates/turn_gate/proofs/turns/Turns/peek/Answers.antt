use Rattle.std.proofs.Common.{rules, Some, [], ◌∷◌, sym, ap, ◌∙◌, subst}
use Rattle.atomic_table.specs.Table.{rest}
use Rattle.turn_gate.specs.declared.entry.Terms.{Terms}
use Rattle.turn_gate.specs.Rule.{terms_of}
use Rattle.turn_gate.specs.Callers.{own_of, InOrder}
use Rattle.turn_gate.proofs.Turning.{has_number, turn_version, turn_machine, swapped, may_release, after_release, After}
use Rattle.turn_gate.proofs.turns.Turns.peek.Given as given
use Rattle.turn_gate.proofs.turns.Turns.peek.Goals as goal

pub take-word-requires-clause-number : goal.take-word-requires-clause-number
take-word-requires-clause-number g c = has_number g.M.Machine.legal _ _ c.seat.invariant

pub exchange-requires : goal.exchange-requires
exchange-requires g c =
    let t = c.take-word.ensures.turn.machine in
    (search rules, (Some t.0, t.1 ∙ ap (λ cs. (0, Some t.0) ∷ rest cs) (sym t.1)))

pub release-requires-clause-release : goal.release-requires-clause-release
release-requires-clause-release g c =
    let T : Terms g.row.M-Setting.Denot = terms_of g.M.Machine.setting c.self.inside.table.shared.key in
    let t = c.take-word.ensures.turn in
    let slot = c.exchange.ensures.2 ∙ ap (λ o. (0, o) ∷ rest c.take-word.new.place.me.1) c.unwrap-machine.ensures in
    let m = turn_machine g.M.Machine.legal g.M.Machine.version_of g.M.Machine.stands g.M.Machine.setting T c.seat.inside.place.me.0 c.take-word.new.place.me c.take-word.result c.unwrap-machine.result t slot in
    let is = swapped g.M.Machine.legal g.M.Machine.version_of g.M.Machine.stands g.M.Machine.setting T c.take-word.new.place.me c.exchange.new.seat.me c.exchange-2.new.seat.me t.machine.0 _ _ t.machine.1 c.exchange.ensures.3 c.exchange-2.ensures.3 in
    may_release g.M.Machine.legal g.M.Machine.version_of g.M.Machine.stands g.M.Machine.setting T c.seat.inside.number c.take-word.result c.take-word.result c.seat.inside.place.me c.take-word.new.place.me c.exchange-2.new.seat.me [] c.unwrap-machine.result c.seat.invariant t is
    m.0 m.1 t.orderly.legal_seen t.versions tt t.word

-- what is known after the release
after : (g : given.Over) (c : goal.After-version_in g) → After {M = g.row.M.Denot} g.M.Machine.legal g.M.Machine.version_of g.M.Machine.stands g.M.Machine.setting (terms_of g.M.Machine.setting c.self.inside.table.shared.key)
    c.seat.inside.number c.seat.inside.place.me c.take-word.new.place.me [] c.release.new.place.me
after g c =
    let T : Terms g.row.M-Setting.Denot = terms_of g.M.Machine.setting c.self.inside.table.shared.key in
    let t = c.take-word.ensures.turn in
    let is = swapped g.M.Machine.legal g.M.Machine.version_of g.M.Machine.stands g.M.Machine.setting T c.take-word.new.place.me c.exchange.new.seat.me c.exchange-2.new.seat.me t.machine.0 _ _ t.machine.1 c.exchange.ensures.3 c.exchange-2.ensures.3 in
    let known = ap (λ x. x.terms) c.seat.view_is ∙ (c.requires.1 ∙ ap (λ x. Some x.terms) (sym c.self.view_is)) in
    after_release g.M.Machine.legal g.M.Machine.version_of g.M.Machine.stands g.M.Machine.setting T c.seat.inside.number c.take-word.result c.take-word.result c.seat.inside.place.me c.take-word.new.place.me c.exchange-2.new.seat.me c.release.new.place.me [] _ known c.seat.invariant t is
    t.orderly.legal_seen tt c.release.ensures.released

pub invariant_of-seat : goal.invariant_of-seat
invariant_of-seat g c = (after g c).seated

pub returns-clause-version : goal.returns-clause-version
returns-clause-version g c =
    let T : Terms g.row.M-Setting.Denot = terms_of g.M.Machine.setting c.self.inside.table.shared.key in
    c.version_in.ensures ∙ (turn_version g.M.Machine.legal g.M.Machine.version_of g.M.Machine.stands g.M.Machine.setting T c.seat.inside.place.me.0 c.take-word.new.place.me c.take-word.result c.self.invariant.small c.take-word.ensures.turn ∙ ap g.M.Machine.version_of (sym (after g c).seen))

pub returns-clause-in_order : goal.returns-clause-in_order
returns-clause-in_order g c = subst (λ (T : Terms g.row.M-Setting.Denot). InOrder g.M.Machine.legal T c.seat.inside.number c.release.new.place.me.0.seen (own_of c.release.new.place.me.0.tickets)) (ap (λ x. x.terms) c.self.view_is) (after g c).order
