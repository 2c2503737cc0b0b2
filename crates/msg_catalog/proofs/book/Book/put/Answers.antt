use Rattle.std.proofs.Common.{sym, ◌∙◌, subst}
use Rattle.msg_catalog.specs.Books.{IsInOrder}
use Rattle.msg_catalog.proofs.Orders.{set_with, insert_with, order_with}
use Rattle.msg_catalog.proofs.book.Book.put.Goals as goal

pub returns-in-Ok : goal.returns-in-Ok
returns-in-Ok c =
    let there = rw (← c.self.view_is) at c.in-Ok.ensures.there in
    rw (← c.self.view_is) (set_with c.args.message c.self.inside.messages.items c.in-Ok.at c.self.invariant there.0 there.1 there.2)

pub returns-in_ok-insert-in-Err : goal.returns-in_ok-insert-in-Err
returns-in_ok-insert-in-Err c =
    let absent = rw (← c.self.view_is) at c.in-Err.ensures.absent in
    rw (← c.self.view_is) (c.in_ok-insert-in-Err.ensures.items ∙ insert_with c.args.message c.self.inside.messages.items c.in-Err.at c.self.invariant absent.0 absent.2)

pub invariant_of-self : goal.invariant_of-self
invariant_of-self c =
    subst IsInOrder (sym (returns-in-Ok c)) (rw (← c.self.view_is) (order_with c.args.message c.self.inside.messages.items c.self.invariant))

pub invariant_of-self-in-Continue-1 : goal.invariant_of-self-in-Continue-1
invariant_of-self-in-Continue-1 c =
    subst IsInOrder (sym (returns-in_ok-insert-in-Err c)) (rw (← c.self.view_is) (order_with c.args.message c.self.inside.messages.items c.self.invariant))
