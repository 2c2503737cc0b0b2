use Rattle.std.proofs.Common.{rules, ◌*◌, ◌<◌, ◌≤◌, ◌+◌, Some, [], ◌∷◌, length, false, refl, sym, ap, ◌∙◌, subst, arith}
use Rattle.atomic_table.specs.Table.{rest}
use Rattle.turn_gate.specs.declared.entry.Terms.{Terms}
use Rattle.turn_gate.specs.Rule.{terms_of, written, MayRelease}
use Rattle.turn_gate.specs.History.{Extends, entry}
use Rattle.turn_gate.specs.Callers.{own_of, InOrder}
use Rattle.turn_gate.proofs.Turning.{has_number, turn_count, turn_room, turn_machine, swapped, turn_release, turn_legal, after_release, After}
use Rattle.turn_gate.proofs.turns.Turns.turn.Given as given
use Rattle.turn_gate.proofs.turns.Turns.turn.Goals as goal

pub take-word-requires-clause-number : goal.take-word-requires-clause-number
take-word-requires-clause-number g c = has_number g.M.Machine.legal _ _ c.seat.invariant

pub exchange-requires : goal.exchange-requires
exchange-requires g c =
    let t = c.take-word.ensures.turn.machine in
    (search rules, (Some t.0, t.1 ∙ ap (λ cs. (0, Some t.0) ∷ rest cs) (sym t.1)))

pub step-reply-requires-clause-room : goal.step-reply-requires-clause-room
step-reply-requires-clause-room g c =
    let T : Terms g.row.M-Setting.Denot = terms_of g.M.Machine.setting c.self.inside.table.shared.key in
    let t = c.take-word.ensures.turn in
    let slot = c.exchange.ensures.2 ∙ ap (λ o. (0, o) ∷ rest c.take-word.new.place.me.1) c.unwrap-machine.ensures in
    let k = turn_machine g.M.Machine.legal g.M.Machine.version_of g.M.Machine.stands g.M.Machine.setting T _ _ _ _ t slot in
    let less : length (own_of c.seat.inside.place.me.0.tickets) < T.quota = search rules in
    let fewer = turn_room g.M.Machine.legal g.M.Machine.version_of g.M.Machine.stands g.M.Machine.setting T _ _ _ _ c.seat.invariant t less in
    let room : T.seats * T.quota ≤ g.M.Machine.room T.setting = c.self.invariant.fits in
    (c.take-word.new.place.me.0.seen, k.0, subst (λ s. length c.take-word.new.place.me.0.seen < g.M.Machine.room s) (sym k.1) (omega arith))

pub clear_word-next-requires : goal.clear_word-next-requires
clear_word-next-requires g c =
    let T : Terms g.row.M-Setting.Denot = terms_of g.M.Machine.setting c.self.inside.table.shared.key in
    let t = c.take-word.ensures.turn in
    let small : T.seats * T.quota < 2147483648 = c.self.invariant.small in
    let counts = turn_count g.M.Machine.legal g.M.Machine.version_of g.M.Machine.stands g.M.Machine.setting T _ _ _ small t in
    let less : length (own_of c.seat.inside.place.me.0.tickets) < T.quota = search rules in
    let fewer = turn_room g.M.Machine.legal g.M.Machine.version_of g.M.Machine.stands g.M.Machine.setting T _ _ _ _ c.seat.invariant t less in
    let is = c.count_in.ensures in omega arith

pub enter-requires-clause-release : goal.enter-requires-clause-release
enter-requires-clause-release g c =
    let T : Terms g.row.M-Setting.Denot = terms_of g.M.Machine.setting c.self.inside.table.shared.key in
    let t = c.take-word.ensures.turn in
    let slot = c.exchange.ensures.2 ∙ ap (λ o. (0, o) ∷ rest c.take-word.new.place.me.1) c.unwrap-machine.ensures in
    let less : length (own_of c.seat.inside.place.me.0.tickets) < T.quota = search rules in
    let is = swapped g.M.Machine.legal g.M.Machine.version_of g.M.Machine.stands g.M.Machine.setting T c.take-word.new.place.me c.exchange.new.seat.me c.exchange-2.new.seat.me t.machine.0 _ _ t.machine.1 c.exchange.ensures.3 c.exchange-2.ensures.3 in
    let did = c.step-reply.ensures in
    let word = c.clear_word-next.ensures ∙ ap (λ n. 2 * (n + 1) + 4294967296 * c.version.result) c.count_in.ensures in
    subst (λ (op : g.row.M-Op.Denot). MayRelease g.M.Machine.stands g.M.Machine.legal g.M.Machine.setting g.M.Machine.version_of T c.exchange-2.new.seat.me (entry c.seat.inside.number op c.step-reply.result ∷ []) c.clear_word-next.result) (sym c.of-asked.ensures)
    (turn_release g.M.Machine.legal g.M.Machine.version_of g.M.Machine.stands g.M.Machine.setting T c.seat.inside.number c.take-word.result c.clear_word-next.result c.version.result c.seat.inside.place.me c.take-word.new.place.me c.exchange-2.new.seat.me (entry c.seat.inside.number c.args.op c.step-reply.result) c.unwrap-machine.result c.step-reply.new.self c.self.invariant.small c.seat.invariant t slot is
    did.stands did.legal did.setting did.version c.version.ensures.version refl less word)

-- what is known after the release
after : (g : given.Over) (c : goal.After-drop-asked g) → After {M = g.row.M.Denot} g.M.Machine.legal g.M.Machine.version_of g.M.Machine.stands g.M.Machine.setting (terms_of g.M.Machine.setting c.self.inside.table.shared.key)
    c.seat.inside.number c.seat.inside.place.me c.take-word.new.place.me (entry c.seat.inside.number c.args.op c.step-reply.result ∷ []) c.enter.new.place.me
after g c =
    let T : Terms g.row.M-Setting.Denot = terms_of g.M.Machine.setting c.self.inside.table.shared.key in
    let t = c.take-word.ensures.turn in
    let slot = c.exchange.ensures.2 ∙ ap (λ o. (0, o) ∷ rest c.take-word.new.place.me.1) c.unwrap-machine.ensures in
    let less : length (own_of c.seat.inside.place.me.0.tickets) < T.quota = search rules in
    let is = swapped g.M.Machine.legal g.M.Machine.version_of g.M.Machine.stands g.M.Machine.setting T c.take-word.new.place.me c.exchange.new.seat.me c.exchange-2.new.seat.me t.machine.0 _ _ t.machine.1 c.exchange.ensures.3 c.exchange-2.ensures.3 in
    let known = ap (λ x. x.terms) c.seat.view_is ∙ (c.requires.seat.1 ∙ ap (λ x. Some x.terms) (sym c.self.view_is)) in
    let done = c.enter.ensures.released ∙ ap (λ (op : g.row.M-Op.Denot). (record c.exchange-2.new.seat.me.0 { tickets = written (entry c.seat.inside.number op c.step-reply.result ∷ []) c.exchange-2.new.seat.me.0.tickets; seen = entry c.seat.inside.number op c.step-reply.result ∷ c.exchange-2.new.seat.me.0.seen; turn = false }, rest c.exchange-2.new.seat.me.1)) c.of-asked.ensures in
    after_release g.M.Machine.legal g.M.Machine.version_of g.M.Machine.stands g.M.Machine.setting T c.seat.inside.number c.take-word.result c.clear_word-next.result c.seat.inside.place.me c.take-word.new.place.me c.exchange-2.new.seat.me c.enter.new.place.me (entry c.seat.inside.number c.args.op c.step-reply.result ∷ []) _ known c.seat.invariant t is
    (turn_legal g.M.Machine.legal g.M.Machine.version_of g.M.Machine.stands g.M.Machine.setting T c.seat.inside.number c.take-word.result c.seat.inside.place.me c.take-word.new.place.me _ c.unwrap-machine.result t slot c.step-reply.ensures.legal)
    (refl, less) done

pub invariant_of-seat : goal.invariant_of-seat
invariant_of-seat g c = (after g c).seated

pub returns-clause-entry : goal.returns-clause-entry
returns-clause-entry g c =
    let T : Terms g.row.M-Setting.Denot = terms_of g.M.Machine.setting c.self.inside.table.shared.key in
    let t = c.take-word.ensures.turn in (
      c.take-word.new.place.me.0.seen,
      subst (Extends c.take-word.new.place.me.0.seen) (ap (λ x. x.seen) c.seat.view_is) t.seen,
      (after g c).seen ∙ ap (λ x. entry x.number c.args.op c.step-reply.result ∷ c.take-word.new.place.me.0.seen) c.seat.view_is,
      c.count_in-2.ensures ∙ turn_count g.M.Machine.legal g.M.Machine.version_of g.M.Machine.stands g.M.Machine.setting T c.seat.inside.place.me.0 c.take-word.new.place.me c.take-word.result c.self.invariant.small t,
    )

pub returns-clause-in_order : goal.returns-clause-in_order
returns-clause-in_order g c = subst (λ (T : Terms g.row.M-Setting.Denot). InOrder g.M.Machine.legal T c.seat.inside.number c.enter.new.place.me.0.seen (own_of c.enter.new.place.me.0.tickets)) (ap (λ x. x.terms) c.self.view_is) (after g c).order
