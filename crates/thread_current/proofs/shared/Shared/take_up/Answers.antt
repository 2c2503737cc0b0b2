use Rattle.std.proofs.Common.{◌≡◌, Option, refl, sym, ap, subst}
use Rattle.mask_compose.specs.Parts.{Parts}
use Rattle.handle_table.specs.Seen.{reply_of}
use Rattle.thread_current.specs.Thread.{thread_of}
use Rattle.thread_current.specs.Mine.{IsMine}
use Rattle.thread_current.proofs.Calls.{TookUp, turned, took_up, mine_uses, mine_refused}
use Rattle.thread_current.proofs.shared.Shared.take_up.Given as given
use Rattle.thread_current.proofs.shared.Shared.take_up.Goals as goal
use Rattle.thread_current.proofs.shared.Shared.take_up.Goals.{Joined-reply, in-Was+in-Some-1, in-Was+in-None-1, in_default}

pub invariant_of-mine-in_default : goal.invariant_of-mine-in_default
invariant_of-mine-in_default g c =
    let e = c.turn-place.ensures in
    mine_refused c.self.inside.turns _ _ c.args.to _ _ _ c.turn-place.result.0 c.turn-place.result.1
    (turned c.self.inside.turns c.args.self.now c.mine.inside.version c.mine.inside.version c.mine.inside.seat c.turn-place.new.seat c.args.mine.now
    c.mine.inside.named c.mine.inside.own c.mine.inside.object _ c.turn-place.result.0 c.turn-place.result.1 c.self.view_is c.mine.view_is c.requires.thread
    c.mine.invariant e.same e.entry e.own e.in_order)
    c.in_default.not-Was c.mine.invariant refl

pub invariant_of-mine-in-Was-2 : goal.invariant_of-mine-in-Was-2
invariant_of-mine-in-Was-2 g c =
    let e = c.turn-place.ensures in
    subst (λ (o : Option Parts). IsMine (thread_of c.mine.inside.version c.turn-place.new.seat) c.args.to o c.mine.inside.object) (sym c.share_any.ensures)
    (mine_uses c.self.inside.turns _ _ c.args.to c.in-Was.former _ c.in-Was.now _ _ c.turn-place.result.0 (reply_of c.turn-place.result.1)
    (turned c.self.inside.turns c.args.self.now c.mine.inside.version c.mine.inside.version c.mine.inside.seat c.turn-place.new.seat c.args.mine.now
    c.mine.inside.named c.mine.inside.own c.mine.inside.object _ c.turn-place.result.0 c.turn-place.result.1 c.self.view_is c.mine.view_is c.requires.thread
    c.mine.invariant e.same e.entry e.own e.in_order)
    (ap reply_of c.in-Was.is) c.mine.invariant refl)

pub invariant_of-mine : goal.invariant_of-mine
invariant_of-mine g c =
    let e = c.turn-place.ensures in
    subst (λ (o : Option Parts). IsMine (thread_of c.mine.inside.version c.turn-place.new.seat) c.args.to o c.mine.inside.object) (sym c.share_any.ensures)
    (mine_uses c.self.inside.turns _ _ c.args.to c.in-Was.former _ c.in-Was.now _ _ c.turn-place.result.0 (reply_of c.turn-place.result.1)
    (turned c.self.inside.turns c.args.self.now c.mine.inside.version c.mine.inside.version c.mine.inside.seat c.turn-place.new.seat c.args.mine.now
    c.mine.inside.named c.mine.inside.own c.mine.inside.object _ c.turn-place.result.0 c.turn-place.result.1 c.self.view_is c.mine.view_is c.requires.thread
    c.mine.invariant e.same e.entry e.own e.in_order)
    (ap reply_of c.in-Was.is) c.mine.invariant refl)

same : (g : given.Over) (c : Joined-reply g) → thread_of c.mine.inside.version c.turn-place.new.seat ≡ c.match-reply.mine
same g c = elim c.match-reply.branch [ in-Was+in-Some-1 w ↦ sym w.mine-is | in-Was+in-None-1 w ↦ sym w.mine-is | in_default w ↦ sym w.mine-is ]

done : (g : given.Over) (c : Joined-reply g) → TookUp c.args.self.now c.args.mine.now c.match-reply.mine c.args.to c.turn-place.result.0 (reply_of c.turn-place.result.1)
done g c =
    let e = c.turn-place.ensures in
    took_up c.self.inside.turns c.args.self.now _ c.args.mine.now _ c.match-reply.mine c.args.to c.turn-place.result.0 _ c.self.view_is c.mine.view_is
    (turned c.self.inside.turns c.args.self.now c.mine.inside.version c.mine.inside.version c.mine.inside.seat c.turn-place.new.seat c.args.mine.now
    c.mine.inside.named c.mine.inside.own c.mine.inside.object _ c.turn-place.result.0 c.turn-place.result.1 c.self.view_is c.mine.view_is c.requires.thread
    c.mine.invariant e.same e.entry e.own e.in_order)
    refl (same g c)

pub returns-clause-answered : goal.returns-clause-answered
returns-clause-answered g c = (done g c).answered

pub returns-clause-in_order : goal.returns-clause-in_order
returns-clause-in_order g c = (done g c).in_order

pub returns-clause-before : goal.returns-clause-before
returns-clause-before g c = (done g c).before

pub returns-clause-leaves : goal.returns-clause-leaves
returns-clause-leaves g c = (done g c).leaves
