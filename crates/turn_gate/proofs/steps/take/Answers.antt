use Rattle.std.proofs.Common.{rules, ◌≡◌, ◌+◌, ◌%◌, arith, ap, sym, ◌∙◌, subst}
use Rattle.turn_gate.proofs.Keeps.{looks, takes_it}
use Rattle.turn_gate.proofs.Seats.{later_look, later_take}
use Rattle.turn_gate.specs.Rule.{HasNumber, HasTurn}
use Rattle.atomic_table.specs.Table.{step}
use mathlib.Core.Option.{none}
use Rattle.turn_gate.proofs.steps.take.Goals as goal

pub load-word-requires : goal.load-word-requires
load-word-requires g c = (c.loop.invariant.table ∙ c.requires.table.0, search rules, looks g.M.Machine.stands g.M.Machine.legal g.M.Machine.setting g.M.Machine.version_of _ _ _ _)

pub loop-preserved-then-word-eq1 : goal.loop-preserved-then-word-eq1
loop-preserved-then-word-eq1 g c = let l = c.load-word.ensures in later_look g.M.Machine.legal g.M.Machine.version_of _ _ _ _ c.loop.invariant (l.0, l.1) l.2

pub compare_exchange-requires : goal.compare_exchange-requires
compare_exchange-requires g c =
    let l = c.load-word.ensures in
    let later = later_look g.M.Machine.legal g.M.Machine.version_of _ _ _ _ c.loop.invariant (l.0, l.1) l.2 in
    let even : c.load-word.result % 2 ≡ 0 = omega arith in (
      later.table ∙ c.requires.table.0,
      search rules,
      takes_it g.M.Machine.stands g.M.Machine.legal g.M.Machine.setting g.M.Machine.version_of _ _ _ _ _ even (ap (λ m. m.1) later.me)
          (c.requires.number.0, subst (HasNumber c.requires.number.0) (ap (λ m. m.0.tickets) (sym later.me)) c.requires.number.1),
    )

pub returns-then-compare_exchange-word-clause-turn :
    goal.returns-then-compare_exchange-word-clause-turn
returns-then-compare_exchange-word-clause-turn g c =
    let l = c.load-word.ensures in
    let later = later_look g.M.Machine.legal g.M.Machine.version_of _ _ _ _ c.loop.invariant (l.0, l.1) l.2 in
    let even : c.load-word.result % 2 ≡ 0 = omega arith in
    let hit = c.if-compare_exchange-word.true in
    subst (HasTurn g.M.Machine.stands g.M.Machine.legal g.M.Machine.setting g.M.Machine.version_of _ c.args.place.now.me.0 c.compare_exchange.new.seat.me) hit
    (later_take g.M.Machine.legal g.M.Machine.version_of g.M.Machine.stands g.M.Machine.setting _ _ _ c.compare_exchange.new.seat (step c.args.board.now.table_id.slots 0 c.load-word.result (c.load-word.result + 1) none) _ later c.requires.terms even hit c.compare_exchange.ensures.2)

pub loop-preserved : goal.loop-preserved
loop-preserved g c =
    let l = c.load-word.ensures in
    let later = later_look g.M.Machine.legal g.M.Machine.version_of _ _ _ _ c.loop.invariant (l.0, l.1) l.2 in
    let t = c.compare_exchange.ensures in
    later_look g.M.Machine.legal g.M.Machine.version_of _ _ _ _ later (t.0, t.1) (t.2.1 c.if-compare_exchange-word.false)
