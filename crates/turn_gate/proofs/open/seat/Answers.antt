use Rattle.std.proofs.Common.{rules, ◌<◌, sym, ap, subst}
use Rattle.turn_gate.proofs.Keeps.{splits_it, numbers_it}
use Rattle.turn_gate.proofs.open.seat.Goals as goal

pub split_seat-place-requires : goal.split_seat-place-requires
split_seat-place-requires g c = (search rules, search rules, splits_it g.M.Machine.stands g.M.Machine.legal g.M.Machine.setting g.M.Machine.version_of _ _ _)

pub compare_exchange-requires : goal.compare_exchange-requires
compare_exchange-requires g c =
    let me = c.loop.invariant.1 in
    let reach : c.from-old.result < c.args.board.now.key.seats = subst (λ n. n < c.args.board.now.key.seats) (sym c.from-old.ensures) c.requires.number in
    (search rules, search rules, numbers_it g.M.Machine.stands g.M.Machine.legal g.M.Machine.setting g.M.Machine.version_of _ _ _ _ _ (ap (λ m. m.0.tickets) me) (ap (λ m. m.0.turn) me) reach)
