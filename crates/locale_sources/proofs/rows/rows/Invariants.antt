use Rattle.std.proofs.Common.{◌≡◌, ◌+◌, ◌++◌, drop, map}
use Rattle.locale_sources.specs.Seen.{source}
use Rattle.locale_sources.specs.Rows.{rows_from}
use Rattle.locale_sources.proofs.rows.rows.Given as goal

abbrev pub invariant-loop-source : goal.invariant-loop-source
invariant-loop-source l = record {
  whole : rows_from l.ends 1 l.ends ≡ l.rows.items ++ rows_from l.ends (l.number + 1) (map source (drop l.source-index l.sources));
  counted : l.number ≡ l.source-index;
}
