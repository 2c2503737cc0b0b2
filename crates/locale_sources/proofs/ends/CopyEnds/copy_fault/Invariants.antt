use Rattle.std.proofs.Common.{◌≡◌, ◌+◌, drop, map}
use Rattle.locale_sources.specs.Seen.{source}
use Rattle.locale_sources.specs.Copies.{copy_fault, fault_from}
use Rattle.locale_sources.proofs.ends.CopyEnds.copy_fault.Given as goal

abbrev pub invariant-loop-source : goal.invariant-loop-source
invariant-loop-source l = record {
  rest : copy_fault l.self ≡ fault_from l.self (l.number + 1) (map source (drop l.source-index l.sources));
  counted : l.number ≡ l.source-index;
}
