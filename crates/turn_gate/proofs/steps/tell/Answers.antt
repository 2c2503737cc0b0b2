use Rattle.std.proofs.Common.{rules, ap}
use Rattle.turn_gate.proofs.Keeps.{looks, splits_it, joins_it}
use Rattle.turn_gate.proofs.steps.tell.Goals as goal

pub split_seat-told-requires : goal.split_seat-told-requires
split_seat-told-requires g c = (search rules, search rules, splits_it g.M.Machine.stands g.M.Machine.legal g.M.Machine.setting g.M.Machine.version_of _ _ _)

pub join_seat-requires : goal.join_seat-requires
join_seat-requires g c =
    let off = c.split_seat-told.ensures.4 in
    (search rules, search rules, search rules, search rules, joins_it g.M.Machine.stands g.M.Machine.legal g.M.Machine.setting g.M.Machine.version_of _ _ _ _ _ c.requires.quiet (ap (λ m. m.0.told) off) (ap (λ m. m.0.turn) off))

pub load-requires : goal.load-requires
load-requires g c = (search rules, search rules, looks g.M.Machine.stands g.M.Machine.legal g.M.Machine.setting g.M.Machine.version_of _ _ _ _)
