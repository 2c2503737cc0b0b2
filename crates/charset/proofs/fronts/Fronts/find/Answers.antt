use Rattle.charset.proofs.FrontLemmas.{sorted_place, recent_place}
use Rattle.charset.proofs.fronts.Fronts.find.Goals as goal

pub returns-in-Some : goal.returns-in-Some
returns-in-Some c =
    rw (← c.self.view_is) (sorted_place c.self.inside.strings c.self.inside.sorted.items c.self.inside.recent c.args.front.now c.in-Some.number c.self.invariant (rw (← c.deref.ensures.value) c.in-Some.ensures.found))

pub returns-in-None : goal.returns-in-None
returns-in-None c =
    rw (← c.self.view_is, c.copied.ensures, c.get.ensures.value) (recent_place c.self.inside.strings c.self.inside.sorted.items c.self.inside.recent c.args.front.now c.self.invariant (rw (← c.deref.ensures.value) c.in-None.ensures.absent))
