use Rattle.std.proofs.Common.{◌≡◌, ◌*◌, ◌^◌, ◌≤◌, take}
use Rattle.bundle_maker.specs.Summary.{refused_count, reply_bytes}
use Rattle.bundle_maker.proofs.tally.tally_of.Given as goal

-- what the replies so far come to
abbrev pub invariant-loop-line : goal.invariant-loop-line
invariant-loop-line l = record {
  refused : l.tally.refused ≡ refused_count l.rounds l.threads (take l.line-index l.lines);
  bytes : l.tally.bytes ≡ reply_bytes l.rounds l.threads (take l.line-index l.lines);
  few : l.tally.refused ≤ l.line-index;
  small : l.tally.bytes ≤ l.line-index * 2 ^ 64;
}
