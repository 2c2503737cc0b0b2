use Rattle.std.proofs.Common.{◌≡◌, drop}
use Rattle.std.specs.List.{find}
use Rattle.mask_compose.specs.Offer.{AreOnShelf}
use Rattle.handle_table.specs.Entry.{History}
use Rattle.handle_table.specs.Shelf.{is_lacking}
use Rattle.handle_table.specs.Kept.{Keeps}
use Rattle.handle_table.proofs.shelf.first_lacking.Given as goal

abbrev pub invariant-loop-category : goal.invariant-loop-category
invariant-loop-category g l = (H : History) → Keeps l.setting H l.kept → AreOnShelf l.setting.opening l.names
    → find (is_lacking l.setting H l.mask l.names) (drop l.category-index l.categories) ≡ find (is_lacking l.setting H l.mask l.names) l.categories
