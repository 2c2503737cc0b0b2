use Rattle.std.proofs.Common.{refl, sym, ap, ◌∙◌}
use Rattle.std.specs.Prelude.{position}
use Rattle.script_seats.specs.Seated.{is_held}
use Rattle.script_seats.proofs.HoldLists.{is_taken, position_none}
use Rattle.script_seats.proofs.seated.take_hold.Goals as goal

pub returns-in-Some : goal.returns-in-Some
returns-in-Some c =
    is_taken c.args.named c.args.holds.now.items c.remove.new.self.items c.in-Some.place c.remove.result
    (ap (position (is_held c.args.named)) (sym c.as_slice.ensures.value) ∙ sym c.in-Some.ensures) c.remove.ensures.value c.remove.ensures.items

pub returns-in-None : goal.returns-in-None
returns-in-None c =
    (position_none c.args.named c.args.holds.now.items (ap (position (is_held c.args.named)) (sym c.as_slice.ensures.value) ∙ sym c.in-None.ensures), refl)
