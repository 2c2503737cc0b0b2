use Rattle.std.proofs.Common.{◌≡◌, map, take}
use Rattle.std.specs.Arc.{arc_value}
use Rattle.category_store.specs.Kept.{locale_in}
use Rattle.category_store.proofs.shared.shared.Given as goal

abbrev pub invariant-loop-row : goal.invariant-loop-row
invariant-loop-row l = l.locales.items ≡ map (locale_in (arc_value l.kept)) (take l.row-index l.rows)
