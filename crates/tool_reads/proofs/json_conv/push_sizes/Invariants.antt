use Rattle.std.proofs.Common.{◌≡◌, ◌++◌, drop}
use Rattle.tool_reads.specs.JsonReads.{size_tokens}
use Rattle.tool_reads.proofs.json_conv.push_sizes.Given as goal

-- what is written, and what is left
abbrev pub invariant-loop-size : goal.invariant-loop-size
invariant-loop-size l = record {
  before : l.json.before ≡ l.initial.json.before;
  tokens : l.json.tokens ++ size_tokens (drop l.size-index l.sizes) ≡ l.initial.json.tokens ++ size_tokens l.sizes;
}
