use Rattle.std.proofs.Common.{◌≡◌, map, take}
use Rattle.locale_sources.specs.Seen.{source}
use Rattle.category_store.specs.Kept.{slots}
use Rattle.category_store.proofs.kept.slots_of.Given as goal

abbrev pub invariant-loop-source : goal.invariant-loop-source
invariant-loop-source g l = l.slots.items ≡ slots g.T.Built.gives (map source (take l.source-index l.sources)) l.category
