use Rattle.std.proofs.Common.{◌≡◌, ◌<◌, length, arith}
use Rattle.std.specs.Prelude.{slice_index_or}
use Rattle.std.proofs.lemmas.List.{get_or_default}
use Rattle.script_run.specs.declared.worker.Worker.{Worker}
use Rattle.script_seats.specs.Seated.{gates}
use Rattle.script_run.proofs.Meeting.{meets_step}
use Rattle.script_run.proofs.rounds.meet_each.Goals as goal

pub loop-other-preserved : goal.loop-other-preserved
loop-other-preserved c =
    let other : Worker = slice_index_or c.loop-other.other-items c.loop-other.other-index c.other-item.result in
    let within : c.loop-other.other-index < length c.loop-other.other-items = omega (arith, c.loop-other-test.true, c.loop-other.auto.other-items) in
    let at : other ≡ slice_index_or c.loop-other.other-items c.loop-other.other-index other = get_or_default c.loop-other.other-items c.loop-other.other-index c.other-item.result other within in
    let e = c.meet_both.ensures in
    meets_step (gates c.args.shared.now c.args.catalogs.now) c.args.first.now c.loop-other.first c.args.others.now c.loop-other.other-items c.loop-other.other-index other
    c.meet_both.new.one c.meet_both.new.two c.loop-other.invariant within at e.same_one e.same_two
    (record { saw = e.saw_one.0; seen = e.saw_one.1; order = e.order_one; asked_saw = e.asked_one.0; asked_seen = e.asked_one.1; asked_order = e.asked_order_one })
    (record { saw = e.saw_two.0; seen = e.saw_two.1; order = e.order_two; asked_saw = e.asked_two.0; asked_seen = e.asked_two.1; asked_order = e.asked_order_two })
