use Rattle.std.proofs.Common.{◌≡◌, ◌++◌, drop}
use Rattle.tool_reads.specs.JsonReads.{number_members}
use Rattle.tool_reads.proofs.json_conv.push_numbers.Given as goal

-- what is written, and what is left
abbrev pub invariant-loop-name : goal.invariant-loop-name
invariant-loop-name l = record {
  before : l.json.before ≡ l.initial.json.before;
  tokens : l.json.tokens ++ number_members (drop l.name-index l.fields) ≡ l.initial.json.tokens ++ number_members l.fields;
}
