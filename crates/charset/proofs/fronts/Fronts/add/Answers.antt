use Rattle.std.proofs.Common.{◌≡◌, length, None, ◌∙◌}
use Rattle.charset.specs.Fronts.{IsPlaceOf}
use Rattle.charset.proofs.FrontLemmas.{placed_same, placed_push, front_taken}
use Rattle.charset.proofs.fronts.Fronts.add.Goals as goal

pub invariant_of-self-in-Err : goal.invariant_of-self-in-Err
invariant_of-self-in-Err c =
    let back : c.pop.new.self ≡ c.self.inside.strings = c.pop.ensures ∙ front_taken c.self.inside.strings c.push.new.self c.args.front.now c.in_ok-push.ensures.ok in
    rw back (placed_same c.self.inside.strings c.self.inside.sorted.items c.self.inside.recent c.insert.new.self c.in-Err.ensures.err c.self.invariant)

pub invariant_of-self-in_default : goal.invariant_of-self-in_default
invariant_of-self-in_default c =
    let new : IsPlaceOf c.args.front.now c.self.inside.strings None = rw (← c.self.view_is) at c.requires in
    let last : c.in_ok-number.number ≡ length c.self.inside.strings = c.in_ok-number.ensures ∙ c.len.ensures in
    rw (c.in_ok-push.ensures.ok)
    (placed_push c.self.inside.strings c.self.inside.sorted.items c.self.inside.recent c.insert.new.self c.in_ok-key.key c.args.front.now c.in_ok-number.number c.self.invariant new c.in_ok-key.ensures.items last c.in_default.ensures.entries)
