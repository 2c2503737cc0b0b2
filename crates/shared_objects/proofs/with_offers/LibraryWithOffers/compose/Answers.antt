use Rattle.std.proofs.Common.{◌≡◌, Ok, Err, ap, sym, ◌∙◌}
use Rattle.category_store.specs.Library.{numbers}
use Rattle.shared_objects.specs.Objects.{from_numbers}
use Rattle.shared_objects.proofs.with_offers.LibraryWithOffers.compose.Goals as goal

pub returns-in-Ok : goal.returns-in-Ok
returns-in-Ok c =
    let told : numbers c.args.self.now c.args.name.now c.args.mask ≡ Ok c.in-Ok.numbers = cc (c.self.view_is, c.in-Ok.ensures) in
    c.composed_from.ensures ∙ sym (ap (from_numbers c.args.self.now c.args.mask c.args.base.now) told)

pub returns-in-Err : goal.returns-in-Err
returns-in-Err c =
    let told : numbers c.args.self.now c.args.name.now c.args.mask ≡ Err c.in-Err.field-0.category = cc (c.self.view_is, c.in-Err.ensures) in
    sym (ap (from_numbers c.args.self.now c.args.mask c.args.base.now) told)
