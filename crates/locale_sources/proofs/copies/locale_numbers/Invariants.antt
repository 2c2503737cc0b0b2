use Rattle.std.proofs.Common.{◌≡◌, ◌+◌, drop, map}
use Rattle.locale_sources.specs.Seen.{source}
use Rattle.locale_sources.specs.Copies.{locale_numbers, numbered_from}
use Rattle.locale_sources.proofs.copies.locale_numbers.Given as goal

abbrev pub invariant-loop-source : goal.invariant-loop-source
invariant-loop-source l = record {
  numbered : locale_numbers (map source l.sources) ≡ numbered_from l.named l.number (map source (drop l.source-index l.sources));
  counted : l.number ≡ l.source-index + 1;
}
