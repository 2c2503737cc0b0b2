use Rattle.std.proofs.Common.{sym}
use Rattle.msg_catalog.proofs.Orders.{no_text, text_there}
use Rattle.msg_catalog.proofs.book.Book.get.Goals as goal

pub returns-in-Ok : goal.returns-in-Ok
returns-in-Ok c =
    let there = rw (← c.self.view_is) at c.in-Ok.ensures.there in
    let text = text_there c.args.set c.args.message c.self.inside.messages.items c.index.result.now c.self.invariant there.2 in
    rw (← c.self.view_is, c.as_bytes.ensures) (sym (rw (← there.0, ← c.index.ensures) at text))

pub returns-in-Err : goal.returns-in-Err
returns-in-Err c = sym (no_text c.args.set c.args.message c.args.self.now c.in-Err.ensures.absent.2)
