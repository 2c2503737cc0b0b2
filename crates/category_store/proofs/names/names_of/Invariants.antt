use Rattle.std.proofs.Common.{◌≡◌, ◌≤◌, drop, map, length}
use Rattle.locale_sources.specs.Seen.{source}
use Rattle.category_store.specs.Library.{names_of, names_after}
use Rattle.category_store.proofs.names.names_of.Given as goal

abbrev pub invariant-loop-source : goal.invariant-loop-source
invariant-loop-source l = record {
  rest : names_of (map source l.sources) ≡ names_after l.names (map source (drop l.source-index l.sources));
  few : length l.names ≤ l.source-index;
}
