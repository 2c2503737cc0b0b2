use Rattle.std.proofs.Common.{◌≡◌, map, take}
use Rattle.locale_sources.specs.Tables.{led_on}
use Rattle.locale_sources.proofs.table.joined.Given as goal

abbrev pub invariant-loop-to : goal.invariant-loop-to
invariant-loop-to l = l.table.items ≡ map (led_on l.second) (take l.to-index l.first)
