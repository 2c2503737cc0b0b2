use Rattle.std.proofs.Common.{◌≡◌, ◌++◌, drop}
use Rattle.tool_reads.specs.JsonReads.{text_members}
use Rattle.tool_reads.proofs.json_conv.push_texts.Given as goal

-- what is written, and what is left
abbrev pub invariant-loop-name : goal.invariant-loop-name
invariant-loop-name l = record {
  before : l.json.before ≡ l.initial.json.before;
  tokens : l.json.tokens ++ text_members (drop l.name-index l.fields) ≡ l.initial.json.tokens ++ text_members l.fields;
}
