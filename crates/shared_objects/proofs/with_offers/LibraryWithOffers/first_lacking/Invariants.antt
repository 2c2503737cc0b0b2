use Rattle.std.proofs.Common.{◌≡◌, drop}
use Rattle.std.specs.List.{find}
use Rattle.shared_objects.specs.Objects.{is_lacking}
use Rattle.shared_objects.proofs.with_offers.LibraryWithOffers.first_lacking.Given as goal

-- what is found from here on is what is found at all
abbrev pub invariant-loop-category : goal.invariant-loop-category
invariant-loop-category l =
    find (is_lacking l.self l.mask l.numbers) (drop l.category-index l.categories) ≡ find (is_lacking l.self l.mask l.numbers) l.categories
