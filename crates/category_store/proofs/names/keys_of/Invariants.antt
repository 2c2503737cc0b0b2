use Rattle.std.proofs.Common.{◌≡◌, ◌+◌, drop, map}
use Rattle.locale_sources.specs.Seen.{source}
use Rattle.category_store.specs.Library.{keys_of, keys_after}
use Rattle.category_store.proofs.names.keys_of.Given as goal

abbrev pub invariant-loop-source : goal.invariant-loop-source
invariant-loop-source l = record {
  rest : keys_of (map source l.sources) ≡ keys_after l.keys (l.number + 1) (map source (drop l.source-index l.sources));
  counted : l.number ≡ l.source-index;
}
