use Rattle.std.proofs.Common.{arith, sym, subst, rules, not, ◌==◌}
use Rattle.std.proofs.lemmas.Bool.Decides.{nat_tests}
use Rattle.std.proofs.lemmas.Fn.{filter_same}
use Rattle.msg_catalog.specs.declared.book.Message.{Message}
use Rattle.msg_catalog.specs.Books.{IsInOrder}
use Rattle.msg_catalog.proofs.Orders.{order_filter, without_set_apart, without_set_behind}
use Rattle.msg_catalog.proofs.book.Book.remove_set.Goals as goal
use Rattle.msg_catalog.proofs.book.Book.remove_set.Goals.{else-at-len-via-then-at-len+else-index-set, else-at-len-via-else-at-len}

pub returns-then-index-set : goal.returns-then-index-set
returns-then-index-set c =
    rw (← c.self.view_is) (filter_same _ (λ (m : Message). not (m.set == c.args.set)) _ (λ x b f' k. search rules) _ _ c.retain.ensures.filtered)

pub returns-else-at-len : goal.returns-else-at-len
returns-else-at-len c =
    let place = rw (← c.self.view_is) at c.front-at.ensures.is in
    elim c.else-at-len.branch [
      | else-at-len-via-then-at-len+else-index-set w ↦
          rw (← c.self.view_is) (without_set_apart c.args.set c.self.inside.messages.items w.index.result.now c.self.invariant
          (rw (← place, ← w.index.ensures) (grind (arith, nat_tests))))
      | else-at-len-via-else-at-len w ↦
          rw (← c.self.view_is) (without_set_behind c.args.set c.self.inside.messages.items (rw (← place) (omega arith)))
    ]

pub invariant_of-self : goal.invariant_of-self
invariant_of-self c =
    subst IsInOrder (sym (filter_same _ (λ (m : Message). not (m.set == c.args.set)) _ (λ x b f' k. search rules) _ _ c.retain.ensures.filtered))
    (order_filter (λ (m : Message). not (m.set == c.args.set)) c.self.inside.messages.items c.self.invariant)
