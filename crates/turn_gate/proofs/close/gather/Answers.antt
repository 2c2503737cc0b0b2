use Rattle.std.proofs.Common.{rules, ap}
use Rattle.turn_gate.proofs.Keeps.{looks, joins_it}
use Rattle.turn_gate.proofs.Ending.{after_gather, gathers_new, gathers_old}
use Rattle.turn_gate.proofs.close.gather.Goals as goal

pub join_seat-requires : goal.join_seat-requires
join_seat-requires g c = (search rules, search rules, search rules, search rules, joins_it g.M.Machine.stands g.M.Machine.legal g.M.Machine.setting g.M.Machine.version_of _ _ _ _ _ c.requires.place.quiet c.into_place.ensures.seated.quiet c.into_place.ensures.seated.idle)

pub load-requires : goal.load-requires
load-requires g c = (search rules, search rules, looks g.M.Machine.stands g.M.Machine.legal g.M.Machine.setting g.M.Machine.version_of _ _ _ _)

pub returns-clause-gathered : goal.returns-clause-gathered
returns-clause-gathered g c =
    let after = after_gather g.M.Machine.legal g.M.Machine.version_of c.args.place.now.me.0 c.into_place.result.me.0 c.args.place.now.me.1 c.join_seat.new.seat.me c.load.new.seat.me c.load.result c.join_seat.ensures.2 c.load.ensures.2 in
    gathers_new g.M.Machine.legal g.M.Machine.version_of c.args.place.now.me.0 c.into_place.result.me.0 c.load.new.seat.me c.args.seat.number c.args.seat after c.into_place.ensures.seated.ticket (ap (λ x. x.seen) c.into_place.ensures.caller) (ap (λ x. x.number) c.into_place.ensures.caller) (ap (λ x. x.own) c.into_place.ensures.caller)

pub returns-clause-kept : goal.returns-clause-kept
returns-clause-kept g c = λ d old.
    let after = after_gather g.M.Machine.legal g.M.Machine.version_of c.args.place.now.me.0 c.into_place.result.me.0 c.args.place.now.me.1 c.join_seat.new.seat.me c.load.new.seat.me c.load.result c.join_seat.ensures.2 c.load.ensures.2 in
    gathers_old g.M.Machine.legal g.M.Machine.version_of c.args.place.now.me.0 c.into_place.result.me.0 c.load.new.seat.me d after old
