use Rattle.std.proofs.Common.{◌≡◌, refl, sym, ap, ◌∙◌}
use Rattle.handle_table.specs.History.{global_at}
use Rattle.thread_current.specs.Seen.{entries_of}
use Rattle.thread_current.specs.Thread.{thread_of}
use Rattle.thread_current.specs.Mine.{IsMine}
use Rattle.thread_current.proofs.Calls.{Looked, looked, looked_seen, mine_later}
use Rattle.thread_current.proofs.shared.Shared.cached.Given as given
use Rattle.thread_current.proofs.shared.Shared.cached.Goals as goal
use Rattle.thread_current.proofs.shared.Shared.cached.Goals.{then-version-mine, else-version-mine}

inner : (g : given.Over) (c : goal.Joined-version-mine g) → Looked c.self.inside.turns (thread_of c.mine.inside.version c.mine.inside.seat) (thread_of c.mine.inside.version c.look-version.new.seat)
inner g c =
    let e = c.look-version.ensures in
    looked c.self.inside.turns c.args.self.now c.mine.inside.version c.mine.inside.version c.mine.inside.seat c.look-version.new.seat c.args.mine.now
    c.mine.inside.named c.mine.inside.own c.mine.inside.object c.self.view_is c.mine.view_is c.requires c.mine.invariant e.same e.later e.in_order

outer : (g : given.Over) (c : goal.Joined-version-mine g) → Looked c.args.self.now c.args.mine.now (thread_of c.mine.inside.version c.look-version.new.seat)
outer g c = looked_seen c.self.inside.turns c.args.self.now _ c.args.mine.now _ c.self.view_is c.mine.view_is (inner g c)

right : (g : given.Over) (c : goal.Joined-version-mine g) → IsMine (thread_of c.mine.inside.version c.look-version.new.seat) c.mine.inside.named c.mine.inside.own c.mine.inside.object
right g c =
    let l = inner g c in
    mine_later c.self.inside.turns _ _ _ _ _ c.mine.invariant l.known l.saw.same.terms l.saw.later l.selection refl l.is

pub invariant_of-mine : goal.invariant_of-mine
invariant_of-mine g c = right g c

pub returns-clause-saw : goal.returns-clause-saw
returns-clause-saw g c = (outer g c).saw

pub returns-clause-keeps : goal.returns-clause-keeps
returns-clause-keeps g c = let l = outer g c in record { selection = l.selection; holds = l.holds; cached = ap (λ t. t.cached) c.mine.view_is }

pub returns-clause-in_order : goal.returns-clause-in_order
returns-clause-in_order g c = (outer g c).is

pub returns-clause-read : goal.returns-clause-read
returns-clause-read g c =
    let l = inner g c in
    let known = l.saw.same.terms ∙ l.known in
    let here : c.mine.inside.object ≡ global_at c.self.inside.turns.terms.setting (entries_of c.look-version.new.seat.seen) c.mine.inside.version = (right g c).object_is c.self.inside.turns.terms known in
    elim c.if-version-mine.branch [
      | then-version-mine w ↦
          rw w.result-is (
            c.look-version.ensures.version,
            w.share.ensures
                ∙ here
                ∙ ap (λ x. global_at x.terms.setting (entries_of c.look-version.new.seat.seen) c.mine.inside.version) c.self.view_is
                ∙ ap (global_at c.args.self.now.terms.setting (entries_of c.look-version.new.seat.seen)) (sym w.if-version-mine.true),
          )
      | else-version-mine w ↦ rw w.result-is tt
    ]
