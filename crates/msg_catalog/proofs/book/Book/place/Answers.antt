use Rattle.std.proofs.Common.{arith, sym, ◌∙◌}
use Rattle.msg_catalog.proofs.Orders.{absent_at, absent_behind}
use Rattle.msg_catalog.proofs.book.Book.place.Goals as goal
use Rattle.msg_catalog.proofs.book.Book.place.Goals.{else-at-len-via-then-at-len+else-stands_at, else-at-len-via-else-at-len}

pub returns-else-at-len-clause-absent : goal.returns-else-at-len-clause-absent
returns-else-at-len-clause-absent c =
    let place = rw (← c.self.view_is) at c.front-at.ensures.is in (
      c.front-at.ensures.is,
      c.front-at.ensures.within,
      elim c.else-at-len.branch [
        | else-at-len-via-then-at-len+else-stands_at w ↦
            rw (← c.self.view_is) (absent_at c.args.set c.args.number c.self.inside.messages.items w.index.result.now c.self.invariant
            (rw (← place, ← w.index.ensures) (sym w.stands_at.ensures ∙ w.if-stands_at.false)))
        | else-at-len-via-else-at-len w ↦
            rw (← c.self.view_is) (absent_behind c.args.set c.args.number c.self.inside.messages.items (rw (← place) (omega arith)))
      ],
    )
