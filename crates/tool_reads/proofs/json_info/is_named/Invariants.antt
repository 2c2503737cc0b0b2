use Rattle.std.proofs.Common.{◌≡◌, drop, map}
use Rattle.tool_reads.specs.JsonReads.{is_named}
use Rattle.tool_reads.proofs.json_info.is_named.Given as goal

-- no word so far is the name
abbrev pub invariant-loop-word : goal.invariant-loop-word
invariant-loop-word l = is_named (map (λ name. name.now) (drop l.word-index l.words)) l.name ≡ is_named (map (λ name. name.now) l.words) l.name
