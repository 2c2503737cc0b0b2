use Rattle.std.proofs.Common.{rules}
use Rattle.std.proofs.lemmas.List.Sorted.{IsPartitionPoint-from_clause}
use Rattle.std.specs.List.Sorted.{IsPartitionedBy}
use Rattle.msg_catalog.specs.Books.{comes_before}
use Rattle.msg_catalog.proofs.Orders.{parted, front_counted}
use Rattle.msg_catalog.proofs.book.Book.front.Goals as goal

pub returns-clause-is : goal.returns-clause-is
returns-clause-is c =
    let order : IsPartitionedBy (comes_before c.args.set c.args.number) c.deref.result.now = rw (c.deref.ensures.value) (parted c.args.set c.args.number c.self.inside.messages.items c.self.invariant) in
    let point = IsPartitionPoint-from_clause (comes_before c.args.set c.args.number) c.deref.result.now _ c.partition_point.ensures.partitioned order (λ a r q k. search rules) in
    rw (← c.self.view_is, ← c.deref.ensures.value) (front_counted c.args.set c.args.number c.deref.result.now c.partition_point.result c.partition_point.ensures.bound point)
