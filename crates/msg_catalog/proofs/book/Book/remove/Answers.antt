use Rattle.std.proofs.Common.{sym, subst, rules, not}
use Rattle.std.proofs.lemmas.Fn.{filter_same}
use Rattle.msg_catalog.specs.declared.book.Message.{Message}
use Rattle.msg_catalog.specs.Books.{IsInOrder, stands_at}
use Rattle.msg_catalog.proofs.Orders.{order_filter, without_absent}
use Rattle.msg_catalog.proofs.book.Book.remove.Goals as goal

pub returns-in-Ok : goal.returns-in-Ok
returns-in-Ok c =
    rw (← c.self.view_is) (filter_same _ (λ (m : Message). not (stands_at c.args.set c.args.number m)) _ (λ x b f' k. search rules) _ _ c.retain.ensures.filtered)

pub returns-in_default : goal.returns-in_default
returns-in_default c = without_absent _ _ _ c.in_default.ensures.absent.2

pub invariant_of-self : goal.invariant_of-self
invariant_of-self c =
    subst IsInOrder (sym (filter_same _ (λ (m : Message). not (stands_at c.args.set c.args.number m)) _ (λ x b f' k. search rules) _ _ c.retain.ensures.filtered))
    (order_filter (λ (m : Message). not (stands_at c.args.set c.args.number m)) c.self.inside.messages.items c.self.invariant)
