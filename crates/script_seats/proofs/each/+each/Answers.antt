use Rattle.std.specs.Fork.{AcceptsAt, ChangesAt}
use Rattle.script_seats.proofs.EachPlace.{accepts_front, accepts_back, changes_both}
use Rattle.script_seats.proofs.each.+each.Goals as goal

pub each_from-one_beside-requires-clause-accepts : goal.each_from-one_beside-requires-clause-accepts
each_from-one_beside-requires-clause-accepts g t c κs within =
    accepts_front (AcceptsAt g.F.Fn c.args.f.now) c.args.base c.args.s.now c.split_at_mut-one.result.0.now c.split_at_mut-one.result.1.now c.split_at_mut-one.ensures.value c.requires.accepts

pub each_from-one_beside-requires-clause-rest_accepts : goal.each_from-one_beside-requires-clause-rest_accepts
each_from-one_beside-requires-clause-rest_accepts g t c κs within =
    accepts_back (AcceptsAt g.F.Fn c.args.f.now) c.args.base c.args.s.now c.split_at_mut-one.result.0.now c.split_at_mut-one.result.1.now c.split_at_mut-one.ensures.value c.split_at_mut-one.ensures.front_len c.requires.accepts

pub each_from-returns : goal.each_from-returns
each_from-returns g t c =
    changes_both (ChangesAt g.F.Fn c.args.f.now) c.args.base c.args.s.now c.split_at_mut-one.result.0.now c.split_at_mut-one.result.1.now c.one_beside.new.one c.one_beside.new.rest
    c.split_at_mut-one.ensures.value c.split_at_mut-one.ensures.front_len c.one_beside.ensures.one c.one_beside.ensures.rest
