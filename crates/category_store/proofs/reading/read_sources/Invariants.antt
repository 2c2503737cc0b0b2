use Rattle.std.proofs.Common.{◌≡◌, drop, map, ◌++◌, length, Ok}
use Rattle.lc_base.specs.Reading.{◌>>=◌}
use Rattle.category_store.specs.Sources.{sources_of}
use Rattle.locale_sources.specs.Seen.{source}
use Rattle.category_store.specs.Seen.{placed}
use Rattle.category_store.proofs.reading.read_sources.Given as goal

-- the sources so far, with those to come
abbrev pub invariant-loop-block : goal.invariant-loop-block
invariant-loop-block l = record {
  whole : sources_of l.charsets (map placed l.blocks) ≡ (sources_of l.charsets (map placed (drop l.block-index l.blocks)) >>= λ more. Ok (map source l.sources.items ++ more));
  count : length l.sources.items ≡ l.block-index;
}
